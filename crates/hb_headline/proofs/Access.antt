-- A lawful trace admits each byte that goes to the upstream of a tunnel.
use Rattle.std.proofs.Common.{◌≡◌, ℕ, zero, suc, ◌<◌, Bool, true, false, not, cond, List, [], ◌∷◌, ◌++◌, Option, Some, None, refl, ap, ap₂, sym, ◌∙◌, subst, arith}
use Rattle.hb_base.specs.declared.door.Why.TheVariants as whys
use Rattle.hb_base.specs.declared.peer.Peer.{Peer}
use Rattle.hb_base.specs.declared.target.Target.{Target}
use Rattle.hb_front.specs.Reading.{Seen, IsAnswer, Whole}
use Rattle.hb_held.specs.Held.{Resources}
use Rattle.hb_inbound.proofs.Admitted.{KnowsBy}
use Rattle.hb_inbound.proofs.AdmittedRun.{all_admit}
use Rattle.hb_inbound.specs.Inbound.{Inbound, Phase, unborn}
use Rattle.hb_inbound.specs.Part as part
use Rattle.hb_inbound.specs.Part.{Part}
use Rattle.hb_inbound.specs.Sides.{link_came}
use Rattle.hb_inbound.specs.Tunnel.{Tunnel, unasked, due, takes_place}
use Rattle.hb_laws.specs.Lawful.{Laws}
use Rattle.hb_laws.proofs.Doors.{came_without, owner_without}
use Rattle.hb_model.specs.Messages as messages
use Rattle.hb_model.specs.declared.config.NodeConfig.{NodeConfig}
use Rattle.hb_proxy.proofs.Owned.{all_owned}
use Rattle.hb_proxy.proofs.Projection.{links_run, control_holds}
use Rattle.hb_proxy.proofs.Stays.{is_born}
use Rattle.hb_proxy.specs.Doors.{is_at_door, without_doors}
use Rattle.hb_proxy.specs.Held.{at_start}
use Rattle.hb_proxy.specs.Machine.{Machine, local}
use Rattle.hb_proxy.specs.Owners.{Owner, nobody, owner, inbound_link, upstream_of}
use Rattle.hb_proxy.specs.Points.{Point, of_link, entries, parts_of, control_of}
use Rattle.hb_proxy.specs.Runs.{Steps, StandsFor}
use Rattle.hb_table.specs.Judgement.{judged}
use Rattle.hb_world.specs.Trace.{recv}
use Rattle.hb_world.specs.declared.entry.Entry.{Entry}
use Rattle.hb_world.specs.declared.entry.Entry.TheVariants as e
use Rattle.hb_headline.specs.Access.{peer_in, Admits, AdmitsTo}
use Rattle.hb_headline.specs.Dials.{IsDialled}
use Rattle.hb_headline.proofs.Front.{header_of, who_in, who_told, header_stands}
use Rattle.hb_headline.proofs.Targets.{all_fit}

-- A DIAL that is told without the calls at doors is told

pub dialled_in : (trace : List Entry) (l s u : ℕ) (to : Target) (before behind : List Entry)
    → without_doors trace ≡ before ++ e.Dialled u to (whys.Upstream l s) ∷ behind → IsDialled trace l s u to
dialled_in [] l s u to [] behind is = absurd (cc)
dialled_in [] l s u to (b ∷ before) behind is = absurd (cc)
dialled_in (x ∷ xs) l s u to before behind is = by (is_at_door x) before (λ b r. dialled_in xs l s u to b r) is
  where
    more : IsDialled xs l s u to → IsDialled (x ∷ xs) l s u to
    more found = record { before = x ∷ found.before; behind = found.behind; is = ap (λ (t : List Entry). x ∷ t) found.is }

    by : (b : Bool) (before : List Entry)
        → ((front rest : List Entry) → without_doors xs ≡ front ++ e.Dialled u to (whys.Upstream l s) ∷ rest → IsDialled xs l s u to)
        → cond (not b) (x ∷ without_doors xs) (without_doors xs) ≡ before ++ e.Dialled u to (whys.Upstream l s) ∷ behind
        → IsDialled (x ∷ xs) l s u to
    by true before again is = more (again before behind is)
    by false [] again is =
        let same : x ≡ e.Dialled u to (whys.Upstream l s) = cc in
        record { before = []; behind = xs; is = ap (λ (z : Entry). z ∷ xs) same }
    by false (y ∷ ys) again is =
        let rest : without_doors xs ≡ ys ++ e.Dialled u to (whys.Upstream l s) ∷ behind = cc in
        more (again ys behind rest)

pub some_number : (whose : ℕ → Owner) (l s u : ℕ) → whose 0 ≡ nobody → whose u ≡ upstream_of l s → 0 < u
some_number whose l s zero none own = absurd (let no : nobody ≡ upstream_of l s = sym none ∙ own in cc)
some_number whose l s (suc u) none own = omega arith

-- a tunnel that lives, of a machine behind some points
module _ (g : NodeConfig) (x : Machine) (front : List Point) (run : StandsFor g x front) (before : List Entry)
    (before_is : entries front ≡ without_doors before) (laws : Laws g front) (l s u : ℕ) (own : owner u before ≡ upstream_of l s)
  where
    abbrev tunnel : Tunnel
    tunnel = (x.inbound l).tunnels s

    on_front : owner u (entries front) ≡ upstream_of l s
    on_front = ap (owner u) before_is ∙ owner_without u before ∙ own

    abbrev parts : List Part
    parts = parts_of l front

    came_same : link_came parts ≡ recv l before
    came_same =
        sym (laws.sides.link l ((all_owned g x front run).over l s u on_front)).came ∙ ap (recv l) before_is ∙ came_without l before

    pub admits_by : tunnel.up ≡ u → takes_place tunnel.stage ≡ true → (o : Option Seen) → header_of parts ≡ o
        → Admits (messages.held g (control_of front)) before l s u
    admits_by up_is place None is =
        let told = ((all_admit l (at_start g) (local x l) parts (links_run g x front l run)).each s place).peer_is in
        absurd (let no : None ≡ Some (x.inbound l).peer = sym (who_told parts None ∙ ap who_in is) ∙ told in cc)
    admits_by up_is place (Some seen) is =
        let admit = (all_admit l (at_start g) (local x l) parts (links_run g x front l run)).each s place in
        let peers : Some (peer_in seen) ≡ Some (x.inbound l).peer = sym (who_told parts None ∙ ap who_in is) ∙ admit.peer_is in
        let peer : peer_in seen ≡ (x.inbound l).peer = cc in
        let some = subst (λ (n : ℕ). 0 < n) (sym up_is)
        (some_number (λ n. owner n (entries front)) l s u (all_owned g x front run).none on_front) in
        let dial = all_fit s g x front run l some in
        record {
          seen = seen;
          fronted = subst (λ (bs : List ℕ). IsAnswer bs (Whole seen)) came_same
              (header_stands l (at_start g) (local x l) parts (links_run g x front l run) seen is);
          to = tunnel.target;
          dialled = subst (λ (n : ℕ). IsDialled before l s n tunnel.target) up_is
              (dialled_in before l s tunnel.up tunnel.target dial.before dial.behind (sym before_is ∙ dial.is));
          admitted = ap₂ (λ (h : Resources) (p : Peer). judged h p tunnel.target) (sym (control_holds g x front run)) peer ∙ admit.admitted;
        }

    -- where bytes go to the upstream the tunnel lives
    pub admits_up : (y : Machine) (bytes : List ℕ) → Steps g x (of_link l (part.up s (e.Went u bytes))) y
        → Admits (messages.held g (control_of front)) before l s u
    admits_up y bytes steps =
        let may = steps.1.0.0 in admits_by may.2 (ap takes_place may.1) (header_of parts) refl

-- WHERE A LINK IS DIALLED for a tunnel

-- it is one of a link that was born
born_so : (phase : Phase) (x : Inbound) (parts : List Part) (s : ℕ) → KnowsBy phase parts x → (x.tunnels s).stage ≡ due
    → is_born phase ≡ true
born_so unborn x parts s knows is = absurd (let no : unasked ≡ due = sym (knows s) ∙ is in cc)
born_so _ x parts s knows is = refl

module _ (g : NodeConfig) (x y : Machine) (front : List Point) (run : StandsFor g x front) (before : List Entry)
    (before_is : entries front ≡ without_doors before) (laws : Laws g front) (l s u : ℕ) (to : Target)
    (steps : Steps g x (of_link l (part.up s (e.Dialled u to (whys.Upstream l s)))) y)
  where
    abbrev due_tunnel : Tunnel
    due_tunnel = (x.inbound l).tunnels s

    place : takes_place due_tunnel.stage ≡ true
    place = ap takes_place steps.1.0.1

    own_link : owner l (entries front) ≡ inbound_link
    own_link =
        (all_owned g x front run).link l
        (born_so (x.inbound l).phase (x.inbound l) (parts_of l front) s
        (all_admit l (at_start g) (local x l) (parts_of l front) (links_run g x front l run)).knows steps.1.0.1)

    admits_by_header : (o : Option Seen) → header_of (parts_of l front) ≡ o → AdmitsTo (messages.held g (control_of front)) before l to
    admits_by_header None is =
        let told = ((all_admit l (at_start g) (local x l) (parts_of l front) (links_run g x front l run)).each s place).peer_is in
        absurd (let no : None ≡ Some (x.inbound l).peer = sym (who_told (parts_of l front) None ∙ ap who_in is) ∙ told in cc)
    admits_by_header (Some seen) is =
        let admit = (all_admit l (at_start g) (local x l) (parts_of l front) (links_run g x front l run)).each s place in
        let peers : Some (peer_in seen) ≡ Some (x.inbound l).peer = sym (who_told (parts_of l front) None ∙ ap who_in is) ∙ admit.peer_is in
        let peer : peer_in seen ≡ (x.inbound l).peer = cc in
        let came = sym (laws.sides.link l own_link).came ∙ ap (recv l) before_is ∙ came_without l before in
        record {
          seen = seen;
          fronted = subst (λ (bs : List ℕ). IsAnswer bs (Whole seen)) came
              (header_stands l (at_start g) (local x l) (parts_of l front) (links_run g x front l run) seen is);
          admitted = ap₂ (λ (h : Resources) (p : Peer). judged h p to) (sym (control_holds g x front run)) peer
              ∙ ap (judged x.control.held (x.inbound l).peer) steps.1.0.3 ∙ admit.admitted;
        }

    pub dial_admitted : AdmitsTo (messages.held g (control_of front)) before l to
    dial_admitted = admits_by_header (header_of (parts_of l front)) refl
