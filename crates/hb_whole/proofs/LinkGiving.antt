-- What an act that is given of the inbound links makes of the traces that the proxy stands for.
use Rattle.std.proofs.Common.{◌≡◌, ⊎_elim, ℕ, ◌==◌, Bool, true, false, cond, List, [], ◌∷◌, ◌++◌, Option, Some, None, refl, ap, sym, ◌∙◌, subst}
use Rattle.std.proofs.lemmas.Bool.{and_parts}
use Rattle.hb_base.specs.declared.cause.Cause.{Cause}
use Rattle.hb_base.specs.declared.door.Why.{Why}
use Rattle.hb_base.specs.declared.note.Note.{Note}
use Rattle.hb_inbound.specs.Calm.{close_due}
use Rattle.hb_inbound.specs.Inbound as m
use Rattle.hb_inbound.specs.Inbound.{Inbound, at_stream}
use Rattle.hb_inbound.specs.Part as part
use Rattle.hb_inbound.specs.Part.{Part}
use Rattle.hb_inbound.specs.Runs as inbound
use Rattle.hb_inbound.specs.Tunnel as t
use Rattle.hb_inbound.specs.Tunnel.{Tunnel, Stage, up_entered}
use Rattle.hb_links.specs.Acts as links
use Rattle.hb_links.specs.Acts.{Does}
use Rattle.hb_links.specs.Load.{Recounts}
use Rattle.hb_links.specs.Shows.{ShowsAll}
use Rattle.hb_links.specs.Stirring.{StirsBut, closed_in}
use Rattle.hb_links.specs.declared.links.Links.{Links}
use Rattle.hb_model.specs.declared.config.NodeConfig.{NodeConfig}
use Rattle.hb_node.specs.State.{due_of}
use Rattle.hb_proxy.proofs.Owned.{all_owned, whose_in}
use Rattle.hb_proxy.proofs.Stays.{OwnsBy}
use Rattle.hb_proxy.specs.Doors.{is_at_door, without_doors}
use Rattle.hb_proxy.specs.Machine.{Machine, outward, with_part}
use Rattle.hb_proxy.specs.Owners.{Owner, upstream_of}
use Rattle.hb_proxy.specs.Points.{Point, of_link}
use Rattle.hb_proxy.specs.Runs.{Steps, StandsFor}
use Rattle.hb_proxy.specs.Seen.{Seen, IsLinkThere}
use Rattle.hb_proxy.specs.Ups.{Joins, up_by}
use Rattle.hb_relays.specs.Shows.{ShowsRelays}
use Rattle.hb_turns.specs.Shown.{Acts}
use Rattle.hb_world.specs.Trace.{lives, was_shut}
use Rattle.hb_world.specs.declared.act.Act.{Act}
use Rattle.hb_world.specs.declared.act.Act.TheVariants as act
use Rattle.hb_world.specs.declared.entry.Entry.{Entry}
use Rattle.hb_world.specs.declared.entry.Entry.TheVariants as e
use Rattle.hb_whole.specs.Acting.{given_by}
use Rattle.hb_whole.specs.Sight.{shown_of}
use Rattle.hb_whole.specs.Stands.{Stands, EndsBy, Ends, LinkEnds, TunnelEnds, DialIsDue}
use Rattle.hb_whole.specs.declared.proxy.Proxy.{Proxy}
use Rattle.hb_whole.specs.declared.side.Side.{Side}
use Rattle.hb_whole.proofs.Free.{control_rests}
use Rattle.hb_whole.proofs.Keeping.{IsSteady}
use Rattle.hb_whole.proofs.Relays.{gates_calm, plain_calm}
use Rattle.hb_whole.proofs.Routes.{seen_of, lives_then, shut_then}
use Rattle.hb_whole.proofs.Stirring.{links_stir}
use Rattle.hb_whole.proofs.Telling.{with_act}
use Rattle.hb_whole.proofs.Giving.{acted, gives, Gives, given_behind, not_shut, up_some}

-- HOW THE RUN ENDS

due_there : (phase : m.Phase) (cause : Cause) → close_due phase ≡ Some cause → IsLinkThere phase
due_there m.unborn cause is = absurd cc
due_there m.closed cause is = absurd cc
due_there m.arriving cause is = absurd cc
due_there m.fronting cause is = absurd cc
due_there m.serving cause is = absurd cc
due_there (m.faulted code) cause is = tt
due_there (m.closing why) cause is = tt

due_for : (phase : m.Phase) (cause c : Cause) → close_due phase ≡ Some cause → LinkEnds c phase → cause ≡ c
due_for m.unborn cause c is ends = absurd cc
due_for m.closed cause c is ends = absurd cc
due_for m.arriving cause c is ends = absurd cc
due_for m.fronting cause c is ends = absurd cc
due_for m.serving cause c is ends = absurd cc
due_for (m.faulted code) cause c is ends = absurd ends
due_for (m.closing why) cause c is ends = let same : why ≡ cause = cc in sym same ∙ ends

-- a link that ends so is of a run that does
pub ends_at : (c : Cause) (x : Machine) (l : ℕ) (p : Part) (next : Inbound) → LinkEnds c next.phase
    → ((s : ℕ) → TunnelEnds c (next.tunnels s).stage) → Ends c x → Ends c (with_part l p next x)
ends_at c x l p next phase tunnels is = record {
  control = is.control;
  links = λ k. by (k == l) k (is.links k);
  tunnels = λ k s. by_tunnel (k == l) k s (is.tunnels k s);
  plain = is.plain;
  gates = is.gates;
}
  where
    by : (b : Bool) (k : ℕ) → LinkEnds c (x.inbound k).phase → LinkEnds c (cond b next (x.inbound k)).phase
    by true k so = phase
    by false k so = so

    by_tunnel : (b : Bool) (k s : ℕ) → TunnelEnds c ((x.inbound k).tunnels s).stage
        → TunnelEnds c ((cond b next (x.inbound k)).tunnels s).stage
    by_tunnel true k s so = tunnels s
    by_tunnel false k s so = so

-- how the run ends stays so
link_ends_at : (ends : Option Cause) (x : Machine) (l : ℕ) (p : Part) (next : Inbound)
    → ((c : Cause) → LinkEnds c (x.inbound l).phase → LinkEnds c next.phase)
    → ((c : Cause) (s : ℕ) → TunnelEnds c ((x.inbound l).tunnels s).stage → TunnelEnds c (next.tunnels s).stage)
    → EndsBy ends x → EndsBy ends (with_part l p next x)
link_ends_at None x l p next phase tunnels is = is
link_ends_at (Some c) x l p next phase tunnels is =
    (is.0, ends_at c x l p next (phase c (is.1.links l)) (λ s. tunnels c s (is.1.tunnels l s)) is.1)

-- of an inbound one
module _ (taken : List Note) (p : Proxy) (links_behind : Links) (trace : List Entry) (s : Stands taken p trace) (l : ℕ) (q : Part)
    (z : Entry) (does : Does links_behind p.control.config s.machine l q) (one : part.entry_in q ≡ z ∷ [])
    (none : part.note_in q ≡ []) (steady : IsSteady (of_link l q)) (counts : Recounts p.side.links links_behind) where
  abbrev pub side_behind : Side
  side_behind = record p.side { links = links_behind }

  -- the link behind it
  next : Inbound
  next = does.steps.0

  pub does_stands : EndsBy p.ends_for (with_part l q does.steps.0 s.machine) → is_at_door z ≡ false
      → Stands taken (with_act side_behind None p.strange p) (trace ++ z ∷ [])
  does_stands ends door =
      let y_is : does.y ≡ with_part l q does.steps.0 s.machine = does.steps.3 in
      acted taken p side_behind trace s z (of_link l q) does.y does.steps (ap (λ (y : Machine). y.control) y_is)
      (ap (λ (zs : List Entry). zs ++ []) one) (ap (λ (ns : List Note). ns ++ []) none) door does.shows
      (subst (λ (y : Machine). ShowsRelays p.control.config p.side.relays (outward y)) (sym y_is) s.relays) refl steady counts
      (subst (λ (y : Machine). EndsBy p.ends_for y) (sym y_is) ends)

-- THE LINK'S OWN CLOSE

module _ (taken : List Note) (p : Proxy) (links_behind : Links) (counts : Recounts p.side.links links_behind) (trace : List Entry)
    (s : Stands taken p trace) (l : ℕ) (cause : Cause) (does : Does links_behind p.control.config s.machine l (part.entry (e.Closed l cause))) where
  abbrev x : Machine
  x = s.machine

  may : inbound.MayCome l (x.inbound l) (e.Closed l cause)
  may = does.steps.1.0

  next_is : does.steps.0 ≡ inbound.entered (e.Closed l cause) (x.inbound l)
  next_is = ap (λ (a : inbound.Local). a.link) does.steps.1.1

  seen : Seen x (without_doors trace)
  seen = seen_of taken p trace s

  pub own_lives : lives l trace ≡ true
  own_lives = sym (lives_then trace l) ∙ (seen.link l (due_there (x.inbound l).phase cause may.2)).0

  pub own_cause : (c : Cause) → p.ends_for ≡ Some c → cause ≡ c
  own_cause c ends =
      due_for (x.inbound l).phase cause c may.2 ((subst (λ (o : Option Cause). EndsBy o x) ends s.ends).1.links l)

  pub own_stands : Stands taken (with_act (record p.side { links = links_behind }) None p.strange p) (trace ++ e.Closed l cause ∷ [])
  own_stands =
      does_stands taken p links_behind trace s l (part.entry (e.Closed l cause)) (e.Closed l cause) does refl refl tt counts
      (link_ends_at p.ends_for x l (part.entry (e.Closed l cause)) does.steps.0
      (λ c so. subst (λ (y : Inbound). LinkEnds c y.phase) (sym next_is) tt)
      (λ c s so. subst (λ (y : Inbound). TunnelEnds c (y.tunnels s).stage) (sym next_is) so) s.ends) refl

-- AN UPSTREAM

up_next : (g : NodeConfig) (x y : Machine) (l s : ℕ) (z : Entry) (steps : Steps g x (of_link l (part.up s z)) y)
    → steps.0 ≡ at_stream s (up_entered z) (x.inbound l)
up_next g x y l s z steps = ap (λ (a : inbound.Local). a.link) steps.1.1

-- one tunnel changes so
tunnel_at : (c : Cause) (x : Inbound) (s k : ℕ) (change : Tunnel → Tunnel)
    → ((w : Tunnel) → TunnelEnds c w.stage → TunnelEnds c (change w).stage) → TunnelEnds c (x.tunnels k).stage
    → TunnelEnds c ((at_stream s change x).tunnels k).stage
tunnel_at c x s k change so is = by (k == s)
  where
    by : (b : Bool) → TunnelEnds c (cond b (change (x.tunnels k)) (x.tunnels k)).stage
    by true = so (x.tunnels k) is
    by false = is

up_ends : (g : NodeConfig) (x y : Machine) (l s : ℕ) (z : Entry) (steps : Steps g x (of_link l (part.up s z)) y) (ends : Option Cause)
    → ((c : Cause) (w : Tunnel) → TunnelEnds c w.stage → TunnelEnds c (up_entered z w).stage) → EndsBy ends x
    → EndsBy ends (with_part l (part.up s z) steps.0 x)
up_ends g x y l s z steps ends so is =
    link_ends_at ends x l (part.up s z) steps.0
    (λ c at. subst (λ (v : Inbound). LinkEnds c v.phase) (sym (up_next g x y l s z steps)) at)
    (λ c k at. subst (λ (v : Inbound). TunnelEnds c (v.tunnels k).stage) (sym (up_next g x y l s z steps))
    (tunnel_at c (x.inbound l) s k (up_entered z) (so c) at)) is

-- it joins its tunnel, by how far that is
up_joins : (x : Machine) (g : NodeConfig) (points : List Point) → StandsFor g x points → (l s u : ℕ) (stage : Stage)
    → ((x.inbound l).tunnels s).stage ≡ stage → ((x.inbound l).tunnels s).up ≡ u
    → (((w : Tunnel) → up_by stage w ≡ w.up) × ((whose : ℕ → Owner) (v : ℕ) → OwnsBy stage whose l s v → whose v ≡ upstream_of l s))
    → Joins ((x.inbound l).tunnels s) u
up_joins x g points run l s u stage is up shape =
    let mine : whose_in points u ≡ upstream_of l s =
    shape.1 (whose_in points) u (subst (λ (v : ℕ). OwnsBy stage (whose_in points) l s v) up
    (subst (λ (r : Stage). OwnsBy r (whose_in points) l s ((x.inbound l).tunnels s).up) is ((all_owned g x points run).up l s))) in (
      up_some x g points run u (upstream_of l s) mine (λ is. cc),
      ap (λ (r : Stage). up_by r ((x.inbound l).tunnels s)) is ∙ shape.0 ((x.inbound l).tunnels s) ∙ up,
    )

module _ (taken : List Note) (p : Proxy) (links_behind : Links) (counts : Recounts p.side.links links_behind) (trace : List Entry)
    (s : Stands taken p trace) (l k u : ℕ) where
  -- its close
  module _ (cause : Cause) (does : Does links_behind p.control.config s.machine l (part.up k (e.Closed u cause))) where
    closing : Joins ((s.machine.inbound l).tunnels k) u
    closing =
        up_joins s.machine p.control.config s.points s.run l k u (t.over cause) does.steps.1.0.1 does.steps.1.0.2
        (λ w. refl, λ whose v is. is)

    pub up_lives : lives u trace ≡ true
    up_lives = sym (lives_then trace u) ∙ ((seen_of taken p trace s).up l k u closing).0

    pub up_cause : (c : Cause) → p.ends_for ≡ Some c → cause ≡ c
    up_cause c ends =
        subst (λ (r : Stage). TunnelEnds c r) does.steps.1.0.1
        ((subst (λ (o : Option Cause). EndsBy o s.machine) ends s.ends).1.tunnels l k)

    pub up_stands : Stands taken (with_act (record p.side { links = links_behind }) None p.strange p) (trace ++ e.Closed u cause ∷ [])
    up_stands =
        does_stands taken p links_behind trace s l (part.up k (e.Closed u cause)) (e.Closed u cause) does refl refl tt counts
        (up_ends p.control.config s.machine does.y l k (e.Closed u cause) does.steps p.ends_for (λ c w is. tt) s.ends) refl

  -- its shut
  module _ (does : Does links_behind p.control.config s.machine l (part.up k (e.Shut u))) where
    open_joins : Joins ((s.machine.inbound l).tunnels k) u
    open_joins =
        up_joins s.machine p.control.config s.points s.run l k u t.live does.steps.1.0.1 does.steps.1.0.2
        (λ w. refl, λ whose v is. is)

    pub shut_lives : (lives u trace ≡ true) × (was_shut u trace ≡ false)
    shut_lives =
        let at = (seen_of taken p trace s).up l k u open_joins in
        let open_side = not_shut ((s.machine.inbound l).tunnels k).shut (and_parts _ _ does.steps.1.0.3).1 in
        (sym (lives_then trace u) ∙ at.0, sym (shut_then trace u) ∙ at.1 ∙ open_side)

    pub shut_goes : (c : Cause) → p.ends_for ≡ Some c → ⊥
    shut_goes c ends =
        subst (λ (r : Stage). TunnelEnds c r) does.steps.1.0.1
        ((subst (λ (o : Option Cause). EndsBy o s.machine) ends s.ends).1.tunnels l k)

    pub shut_stands : p.ends_for ≡ None
        → Stands taken (with_act (record p.side { links = links_behind }) None p.strange p) (trace ++ e.Shut u ∷ [])
    shut_stands going =
        does_stands taken p links_behind trace s l (part.up k (e.Shut u)) (e.Shut u) does refl refl tt counts
        (up_ends p.control.config s.machine does.y l k (e.Shut u) does.steps p.ends_for (λ c w is. is) s.ends) refl

-- ALL OF THEM

-- of the inbound links
module _ (p : Proxy) (links_behind : Links) (counts : Recounts p.side.links links_behind) (rests : due_of p.control ≡ None) where
  abbrev side : Side
  side = record p.side { links = links_behind }

  on : (due : Option Act) → links.Acts due p.side.links links_behind → (taken : List Note) (trace : List Entry) (s : Stands taken p trace)
      → links.ActsOn due links_behind p.control.config s.machine
  on due acts taken trace s =
      acts p.control.config s.machine s.points s.run s.links (control_rests p.control s.machine.control s.control rests)
      (plain_calm p.side.relays s.relays) (gates_calm s.machine s.relays true refl)

  gives_by : (due : Act) → links.Acts (Some due) p.side.links links_behind → Gives p side due
  gives_by (act.Close u cause) acts = λ taken trace s.
      ⊎_elim (λ does. record {
        alive = own_lives taken p links_behind counts trace s u cause does;
        stands = own_stands taken p links_behind counts trace s u cause does;
        for = own_cause taken p links_behind counts trace s u cause does;
      })
      (λ at. record {
        alive = up_lives taken p links_behind counts trace s at.0 at.1 u cause at.2;
        stands = up_stands taken p links_behind counts trace s at.0 at.1 u cause at.2;
        for = up_cause taken p links_behind counts trace s at.0 at.1 u cause at.2;
      }) (on (Some (act.Close u cause)) acts taken trace s)
  gives_by (act.Shut u) acts = λ taken trace s.
      let at = on (Some (act.Shut u)) acts taken trace s in
      let both = shut_lives taken p links_behind counts trace s at.0 at.1 u at.2 in
      record {
        alive = both.0;
        unshut = both.1;
        stands = shut_stands taken p links_behind counts trace s at.0 at.1 u at.2;
        goes = shut_goes taken p links_behind counts trace s at.0 at.1 u at.2;
      }
  gives_by (act.Dial to why) acts = λ taken trace s.
      let at = on (Some (act.Dial to why)) acts taken trace s in
      record {
        links = at.0;
        relays = s.relays;
        noted = refl;
        counts = counts;
        due = subst (λ (w : Why). DialIsDue p.control.config s.machine to w) (sym at.3)
            (control_rests p.control s.machine.control s.control rests, at.4, at.5);
        goes = λ c is. subst (λ (r : Stage). TunnelEnds c r) at.4
            ((subst (λ (o : Option Cause). EndsBy o s.machine) is s.ends).1.tunnels at.1 at.2);
      }

  pub links_give : (due : Act) (ends : Option Cause) → p.ends_for ≡ ends → links.Acts (Some due) p.side.links links_behind
      → StirsBut (closed_in (Some due)) p.side.links links_behind
      → Acts Stands shown_of (given_by ends due) p (given_behind ends due (record p { side = side }))
  links_give due ends is acts stirs =
      gives p side due ends is (gives_by due acts) (λ l apart. links_stir p.side side l refl (stirs l apart))

  -- where they give none they show what they showed, and none is due of them
  pub links_asked : links.Acts None p.side.links links_behind → (taken : List Note) (trace : List Entry) (s : Stands taken p trace)
      → ShowsAll links_behind s.machine.inbound
  links_asked acts taken trace s = (on None acts taken trace s).0
