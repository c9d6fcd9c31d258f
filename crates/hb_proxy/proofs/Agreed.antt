-- In every run each link is as far as the trace tells, in the part whose it is.
use Rattle.std.proofs.Common.{◌≡◌, ◌≢◌, ⊎_elim, ℕ, ◌+◌, ◌==◌, Bool, true, false, cond, List, [], ◌∷◌, ◌++◌, Option, Some, None, inr, fold, refl, ap, ap₂, sym, ◌∙◌, subst, arith}
use Rattle.std.proofs.lemmas.Grind.{fold-append}
use Rattle.std.proofs.lemmas.Bool.{cond_both, false≢true, eqb-true, eq-eqb}
use Rattle.hb_base.specs.declared.cause.Cause.{Cause}
use Rattle.hb_base.specs.declared.cause.Cause.TheVariants as cause
use Rattle.hb_base.specs.declared.door.Why.TheVariants as whys
use Rattle.hb_captured.specs.Captured as captured
use Rattle.hb_captured.specs.Captured.{Captured, is_raw}
use Rattle.hb_captured.specs.Part as plain_part
use Rattle.hb_captured.specs.Runs as plain
use Rattle.hb_gateway.specs.Gateway as gateway_link
use Rattle.hb_gateway.specs.Gateway.{Gateway}
use Rattle.hb_gateway.specs.Key.{Key}
use Rattle.hb_gateway.specs.Part as gateway
use Rattle.hb_gateway.specs.Runs as gateways
use Rattle.hb_held.specs.Outcome.{after_response}
use Rattle.hb_inbound.specs.Inbound as inbound
use Rattle.hb_inbound.specs.Inbound.{Inbound}
use Rattle.hb_inbound.specs.Part as part
use Rattle.hb_inbound.specs.Part.{Part}
use Rattle.hb_inbound.specs.Runs as runs
use Rattle.hb_inbound.specs.Tunnel.{Tunnel, Stage, up_entered}
use Rattle.hb_model.specs.Discovery.{Discovery, Phase, unborn, dialling, live, faulted, ending, closed, opened, stopped_for, phase_by, end_by}
use Rattle.hb_model.specs.Machine as control
use Rattle.hb_model.specs.Point as point
use Rattle.hb_model.specs.Runs as model
use Rattle.hb_model.specs.declared.config.NodeConfig.{NodeConfig}
use Rattle.hb_model.proofs.CallsPhases.{ended_by}
use Rattle.hb_model.proofs.CallsSaid.{eqb-self}
use Rattle.hb_model.proofs.CallsSteps.{Becomes, stays, is_born, opens, peer_ends, breaks, breaks_faulted, writes, writes_faulted, closes, looks, refuses, stops, becomes}
use Rattle.hb_model.proofs.Grown.{one_more}
use Rattle.hb_model.proofs.Unborn.{are_unborn}
use Rattle.hb_world.specs.declared.entry.Entry.{Entry}
use Rattle.hb_world.specs.declared.entry.Entry.TheVariants as e
use Rattle.hb_proxy.specs.Held.{at_start}
use Rattle.hb_proxy.specs.Machine.{Machine, local, plain_local, seen_by, plain_seen_by, gate_seen_by, with_control, with_part, with_plain, with_gate, with_stream}
use Rattle.hb_proxy.specs.Owners.{Owner, nobody, control_plane, inbound_link, upstream_of, plain_link, relay_of, gateway_link as gate_owner, at_door, dialled_for, owner_by, ControlStands, PartStands, PlainStands, GateStands}
use Rattle.hb_proxy.specs.Points.{Point, of_control, of_link, of_plain, of_gate, of_stream, entry_in, entries, control_of, parts_of}
use Rattle.hb_proxy.specs.Runs.{BirthMayCome, ControlGuard, LinkGuard, PlainGuard, GateGuard, Steps, StandsFor, begins, goes_on}
use Rattle.hb_proxy.specs.Shared.{Shared, asks, tells, puts, finishes, credits, drops, completes, captured_part, gateway_part}
use Rattle.hb_proxy.proofs.Changes.{LinkFits, IsYet, StageFits, UpFits, DueBy, yet_dialled, yet_open, IsOther, touched_by, touched, LinkGoes, link_same, applied_goes, stopped_goes, part_goes}
use Rattle.hb_proxy.proofs.GateChanges.{GateFits, GateGoes, gate_same, gate_stopped, birth_at, gate_touched, gate_part_goes}
use Rattle.hb_proxy.proofs.Look as seen
use Rattle.hb_proxy.proofs.Look.{Look, unseen, dialled, open_now, bears, opens_it, shuts, look_by, look}
use Rattle.hb_proxy.proofs.Own.{own_at}
use Rattle.hb_proxy.proofs.Owned.{Owned, after, whose_in, whose_one, all_owned}
use Rattle.hb_proxy.proofs.PlainChanges as changes
use Rattle.hb_proxy.proofs.PlainDoors.{caught, relayed}
use Rattle.hb_proxy.proofs.PlainChanges.{here_now, PlainFitsBy, PlainFits, RelayFitsBy, RelayFits, PlainDueBy, PlainDue, born_fits, PlainGoes, plain_same, plain_touched, plain_part_goes}
use Rattle.hb_proxy.proofs.Projection.{control_runs, links_run}

-- LINKS TO THE CONTROL PLANE

-- what a trace has told of one, in each phase of one that is born
abbrev pub ControlFits : Phase → Look → Type 0
ControlFits unborn v = ⊥
ControlFits dialling v = v ≡ dialled false
ControlFits live v = v ≡ open_now false
ControlFits (faulted code) v = v ≡ open_now false
ControlFits (ending why) v = IsYet false v
ControlFits closed v = v.closed ≡ true

into : (phase which : Phase) → phase ≡ which → (v : Look) → ControlFits which v → ControlFits phase v
into phase which is v fits = subst (λ (p : Phase). ControlFits p v) (sym is) fits

from : (phase which : Phase) → phase ≡ which → (v : Look) → ControlFits phase v → ControlFits which v
from phase which is v fits = subst (λ (p : Phase). ControlFits p v) is fits

looked_fits : (o : Option Cause) (v : Look) → v ≡ open_now false → ControlFits (phase_by live o) v
looked_fits None v is = is
looked_fits (Some why) v is =
    ⊎_elim (λ faults. into _ (faulted faults.0) faults.2 v is) (λ ends. into _ (ending why) ends v (yet_open false v is)) (ended_by why)

stopped_fits : (why : Cause) (phase : Phase) (v : Look) → ControlFits phase v → ControlFits (stopped_for why phase) v
stopped_fits why unborn v fits = fits
stopped_fits why dialling v fits = yet_dialled false v fits
stopped_fits why live v fits = yet_open false v fits
stopped_fits why (faulted code) v fits = fits
stopped_fits why (ending other) v fits = fits
stopped_fits why closed v fits = fits

-- the link that a point of the control plane opens or closes
abbrev pub touched_of : point.Point → ℕ
touched_of (point.entry z) = touched_by z
touched_of _ = 0

-- what fits a link still does, where a point doesn't open or close it
control_fits : (n : ℕ) (a b : Discovery) (q : point.Point) → n ≢ touched_of q → Becomes n a b q → (v : Look) → ControlFits a.phase v
    → ControlFits b.phase v
control_fits n a b q apart (stays silent now same) v fits = into b.phase a.phase now v fits
control_fits n a b q apart (is_born to why is at now first) v fits = absurd (from a.phase unborn at v fits)
control_fits n a b q apart (opens is at now same) v fits = absurd (apart (sym (ap touched_of is)))
control_fits n a b q apart (peer_ends is at now) v fits =
    into b.phase (ending cause.Broken) now v (yet_open false v (from a.phase live at v fits))
control_fits n a b q apart (breaks is at now) v fits =
    into b.phase (ending cause.Broken) now v
    (⊎_elim (λ h. yet_dialled false v (from a.phase dialling h v fits)) (λ h. yet_open false v (from a.phase live h v fits)) at)
control_fits n a b q apart (breaks_faulted code is at now) v fits =
    into b.phase (ending (cause.ConnFault code)) now v (yet_open false v (from a.phase (faulted code) at v fits))
control_fits n a b q apart (writes bytes is at now same) v fits = into b.phase live now v (from a.phase live at v fits)
control_fits n a b q apart (writes_faulted bytes code is at now) v fits =
    into b.phase (ending (cause.ConnFault code)) now v (yet_open false v (from a.phase (faulted code) at v fits))
control_fits n a b q apart (closes why is at now) v fits = absurd (apart (sym (ap touched_of is)))
control_fits n a b q apart (looks points told headers is at now same) v fits =
    into b.phase (phase_by live (end_by a.answered headers told)) now v
    (looked_fits (end_by a.answered headers told) v (from a.phase live at v fits))
control_fits n a b q apart (refuses is at now) v fits =
    into b.phase (ending cause.Discovery) now v (yet_open false v (from a.phase live at v fits))
control_fits n a b q apart (stops why is now same) v fits =
    into b.phase (stopped_for why a.phase) now v (stopped_fits why a.phase v fits)

-- EVERY LINK

-- what a trace has told of a link, by whose it is
abbrev pub ByOwner : Owner → Machine → ℕ → Look → Type 0
ByOwner nobody x n v = v ≡ unseen
ByOwner control_plane x n v = ControlFits (x.control.links n).phase v
ByOwner inbound_link x n v = LinkFits (x.inbound n).phase v
ByOwner (upstream_of l s) x n v = UpFits ((x.inbound l).tunnels s) n v
ByOwner plain_link x n v = PlainFits (x.plain n) v
ByOwner (relay_of l) x n v = RelayFits (x.plain l) n v
ByOwner gate_owner x n v = GateFits (x.gates n).phase v

pub record Agrees (x : Machine) (whose : ℕ → Owner) (told : ℕ → Look) : Type 0 where
  pub each : (n : ℕ) → ByOwner (whose n) x n (told n)
  pub due : (l s : ℕ) → DueBy ((x.inbound l).tunnels s).stage ((x.inbound l).tunnels s).shut
  pub plain_due : (l : ℕ) → PlainDue (x.plain l)

-- what fits a link still does, unless it is this one
record MachineGoes (k : ℕ) (x y : Machine) : Type 0 where
  control : (n : ℕ) (v : Look) → IsOther k n → ControlFits (x.control.links n).phase v → ControlFits (y.control.links n).phase v
  links : (l : ℕ) → LinkGoes k l (x.inbound l) (y.inbound l)
  plain : (l : ℕ) → PlainGoes k l (x.plain l) (y.plain l)
  gates : (n : ℕ) → GateGoes k n (x.gates n).phase (y.gates n).phase

module _ (x y : Machine) (whose : ℕ → Owner) (owned : Owned x whose) (told : ℕ → Look) (agrees : Agrees x whose told) where
  -- a link that is somebody's isn't 0
  not_zero : (n : ℕ) (o : Owner) → whose n ≡ o → (nobody ≡ o → ⊥) → n ≢ 0
  not_zero n o is some zero = some (sym owned.none ∙ ap whose (sym zero) ∙ is)

  calm : (k : ℕ) → MachineGoes k x y → (n : ℕ) → (n ≢ 0 → n ≢ k) → ByOwner (whose n) y n (told n)
  calm k goes n apart = by (whose n) refl (agrees.each n)
    where
      other : (o : Owner) → whose n ≡ o → (nobody ≡ o → ⊥) → IsOther k n
      other o is some = let not = not_zero n o is some in (not, apart not)

      by : (o : Owner) → whose n ≡ o → ByOwner o x n (told n) → ByOwner o y n (told n)
      by nobody is old = old
      by control_plane is old = goes.control n (told n) (other control_plane is (λ same. cc)) old
      by inbound_link is old = (goes.links n).phase (told n) (other inbound_link is (λ same. cc)) old
      by (upstream_of l s) is old = ((goes.links l).tunnels s).fits n (told n) (other (upstream_of l s) is (λ same. cc)) old
      by plain_link is old = (goes.plain n).link (told n) (other plain_link is (λ same. cc)) old
      by (relay_of l) is old = (goes.plain l).up n (told n) (other (relay_of l) is (λ same. cc)) old
      by gate_owner is old = goes.gates n (told n) (other gate_owner is (λ same. cc)) old

  still : MachineGoes 0 x y → (n : ℕ) → ByOwner (whose n) y n (told n)
  still goes n = calm 0 goes n (λ not. not)

  -- a link is opened, shut or closed
  touch : (k : ℕ) (w : Owner) (change : Look → Look) → whose k ≡ w → MachineGoes k x y
      → (ByOwner w x k (told k) → ByOwner w y k (change (told k))) → (n : ℕ)
      → ByOwner (whose n) y n (cond (k == n) (change (told n)) (told n))
  touch k w change is goes here n = by (k == n) refl
    where
      by : (b : Bool) → (k == n) ≡ b → ByOwner (whose n) y n (cond b (change (told n)) (told n))
      by true same =
          subst (λ (i : ℕ). ByOwner (whose i) y i (change (told i))) (eqb-true k n same)
          (subst (λ (o : Owner). ByOwner o y k (change (told k))) (sym is)
          (here (subst (λ (o : Owner). ByOwner o x k (told k)) is (agrees.each k))))
      by false apart = calm k goes n (λ not same. false≢true (sym apart ∙ eq-eqb k n (sym same)))

  -- a link is born
  new_one : (k : ℕ) (w : Owner) (change : Look → Look) → whose k ≡ nobody → MachineGoes 0 x y → ByOwner w y k (change unseen) → (n : ℕ)
      → ByOwner (cond (k == n) w (whose n)) y n (cond (k == n) (change (told n)) (told n))
  new_one k w change is goes here n = by (k == n) refl
    where
      by : (b : Bool) → (k == n) ≡ b → ByOwner (cond b w (whose n)) y n (cond b (change (told n)) (told n))
      by true same =
          subst (λ (i : ℕ). ByOwner w y i (change (told i))) (eqb-true k n same)
          (subst (λ (v : Look). ByOwner w y k (change v)) (sym (subst (λ (o : Owner). ByOwner o x k (told k)) is (agrees.each k))) here)
      by false apart = still goes n

-- EVERY POINT

module _ (g : NodeConfig) (x : Machine) (points : List Point) (stands : StandsFor g x points) where
  control_goes : (q : point.Point) (m : control.Machine) → model.Steps g x.control q m
      → MachineGoes (touched_of q) x (with_control q m x)
  control_goes q m steps = record {
    control = λ n v other. control_fits n (x.control.links n) (m.links n) q other.1
        (becomes g x.control m q
        (λ j above. ap (λ (d : Discovery). d.phase) (are_unborn g x.control (control_of points) (control_runs g x points stands) j above).link)
        steps n) v;
    links = λ l. by q l;
    plain = λ l. plain_by q l;
    gates = λ n. gate_by q n;
  }
    where
      by : (q : point.Point) (l : ℕ) → LinkGoes (touched_of q) l (x.inbound l) (seen_by x.control.held q (x.inbound l))
      by (point.applied k r) l = applied_goes 0 l (after_response x.control.held r) (x.inbound l)
      by (point.stopped why) l = stopped_goes 0 l why (x.inbound l)
      by (point.entry z) l = link_same (touched_by z) l (x.inbound l)
      by _ l = link_same 0 l (x.inbound l)

      plain_by : (q : point.Point) (l : ℕ) → PlainGoes (touched_of q) l (x.plain l) (plain_seen_by x.control.held q (x.plain l))
      plain_by (point.applied k r) l = changes.applied_goes 0 l (x.plain l) (after_response x.control.held r)
      plain_by (point.stopped why) l = changes.stopped_goes 0 l why (x.plain l)
      plain_by (point.entry z) l = plain_same (touched_by z) l (x.plain l)
      plain_by _ l = plain_same 0 l (x.plain l)

      gate_by : (q : point.Point) (n : ℕ) → GateGoes (touched_of q) n (x.gates n).phase (gate_seen_by q (x.gates n)).phase
      gate_by (point.stopped why) n = gate_stopped 0 n why (x.gates n).phase
      gate_by (point.entry z) n = gate_same (touched_by z) n (x.gates n).phase
      gate_by _ n = gate_same 0 n (x.gates n).phase

  link_goes : (l : ℕ) (p : Part) (next : Inbound) → runs.Steps l (local x l) p (runs.with_link next (local x l))
      → MachineGoes (touched p) x (with_part l p next x)
  link_goes l p next steps = record {
    control = λ n v other fits. fits;
    links = λ j. cond_both (j == l) next (x.inbound j) (λ z. LinkGoes (touched p) j (x.inbound j) z)
        (λ is. subst (λ (i : ℕ). LinkGoes (touched p) i (x.inbound i) next) (sym (eqb-true j l is))
        (part_goes l (at_start g) (local x l) (parts_of l points) (links_run g x points l stands) p
        (runs.with_link next (local x l)) steps)) (λ apart. link_same (touched p) j (x.inbound j));
    plain = λ j. plain_same (touched p) j (x.plain j);
    gates = λ n. gate_same (touched p) n (x.gates n).phase;
  }

  -- a plain link changes; so does a link to a gateway
  one_plain : (l : ℕ) (p : plain_part.Part) → plain.MayGo l (plain_local x l) p → (j : ℕ)
      → PlainGoes (plain_touched p) j (x.plain j) (cond (j == l) (plain.next_link (x.plain l) p) (x.plain j))
  one_plain l p may j =
      cond_both (j == l) (plain.next_link (x.plain l) p) (x.plain j) (λ z. PlainGoes (plain_touched p) j (x.plain j) z)
      (λ is. subst (λ (i : ℕ). PlainGoes (plain_touched p) i (x.plain i) (plain.next_link (x.plain l) p)) (sym (eqb-true j l is))
      (plain_part_goes l (plain_local x l) p may)) (λ apart. plain_same (plain_touched p) j (x.plain j))

  one_gate : (n : ℕ) (p : gateway.Part) (next : Gateway) → gateways.Steps n (x.gates n) p next → (j : ℕ)
      → GateGoes (gate_touched p) j (x.gates j).phase (cond (j == n) next (x.gates j)).phase
  one_gate n p next steps j =
      cond_both (j == n) next (x.gates j) (λ z. GateGoes (gate_touched p) j (x.gates j).phase z.phase)
      (λ is. subst (λ (i : ℕ). GateGoes (gate_touched p) i (x.gates i).phase next.phase) (sym (eqb-true j n is))
      (gate_part_goes n (x.gates n) next p steps)) (λ apart. gate_same (gate_touched p) j (x.gates j).phase)

  plain_goes : (l : ℕ) (p : plain_part.Part) → plain.MayGo l (plain_local x l) p
      → MachineGoes (plain_touched p) x (with_plain l p (plain.next_link (x.plain l) p) x)
  plain_goes l p may = record {
    control = λ n v other fits. fits;
    links = λ j. link_same (plain_touched p) j (x.inbound j);
    plain = one_plain l p may;
    gates = λ n. gate_same (plain_touched p) n (x.gates n).phase;
  }

  gate_goes : (n : ℕ) (p : gateway.Part) (next : Gateway) → gateways.Steps n (x.gates n) p next
      → MachineGoes (gate_touched p) x (with_gate n p next x)
  gate_goes n p next steps = record {
    control = λ k v other fits. fits;
    links = λ j. link_same (gate_touched p) j (x.inbound j);
    plain = λ j. plain_same (gate_touched p) j (x.plain j);
    gates = one_gate n p next steps;
  }

  -- what happens on a stream opens, shuts and closes no link
  captured_untouched : (n s : ℕ) (w : Shared) → plain_touched (captured_part n s w) ≡ 0
  captured_untouched n s (asks authority) = refl
  captured_untouched n s (tells heard begun) = refl
  captured_untouched n s (puts waiting count) = refl
  captured_untouched n s finishes = refl
  captured_untouched n s (credits count) = refl
  captured_untouched n s (drops begun) = refl
  captured_untouched n s (completes begun note) = refl

  gateway_untouched : (l s : ℕ) (w : Shared) → gate_touched (gateway_part l s w) ≡ 0
  gateway_untouched l s (asks authority) = refl
  gateway_untouched l s (tells heard begun) = refl
  gateway_untouched l s (puts waiting count) = refl
  gateway_untouched l s finishes = refl
  gateway_untouched l s (credits count) = refl
  gateway_untouched l s (drops begun) = refl
  gateway_untouched l s (completes begun note) = refl

  stream_goes : (l n s : ℕ) (w : Shared) (next : Gateway) → plain.MayGo l (plain_local x l) (captured_part n s w)
      → gateways.Steps n (x.gates n) (gateway_part l s w) next
      → MachineGoes 0 x (with_stream l n (plain.next_link (x.plain l) (captured_part n s w)) next x)
  stream_goes l n s w next may steps = record {
    control = λ k v other fits. fits;
    links = λ j. link_same 0 j (x.inbound j);
    plain = λ j. subst (λ (k : ℕ). PlainGoes k j (x.plain j)
        (cond (j == l) (plain.next_link (x.plain l) (captured_part n s w)) (x.plain j)))
        (captured_untouched n s w) (one_plain l (captured_part n s w) may j);
    gates = λ j. subst (λ (k : ℕ). GateGoes k j (x.gates j).phase (cond (j == n) next (x.gates j)).phase)
        (gateway_untouched l s w) (one_gate n (gateway_part l s w) next steps j);
  }

module _ (g : NodeConfig) (x : Machine) (points : List Point) (stands : StandsFor g x points) (told : ℕ → Look)
    (agrees : Agrees x (whose_in points) told) where
  abbrev whose : ℕ → Owner
  whose = whose_in points

  owned : Owned x whose
  owned = all_owned g x points stands

  -- behind an entry
  abbrev AgreesBehind : Entry → Machine → ℕ → Type 0
  AgreesBehind z y n = ByOwner (owner_by n (whose n) z) y n (look_by n (told n) z)

  new_number : (k : ℕ) → k ≡ x.born + 1 → whose k ≡ nobody
  new_number k next = owned.unborn k (omega (arith, next))

  control_each : (z : Entry) (m : control.Machine) → model.Steps g x.control (point.entry z) m → BirthMayCome x z
      → ControlStands (entries points) (point.entry z) → (n : ℕ) → AgreesBehind z (with_control (point.entry z) m x) n
  control_each (e.Dialled k to why) m steps birth own n =
      let y = with_control (point.entry (e.Dialled k to why)) m x in
      let d = x.control.links k in
      let new = control.dialled_for g.id to x.control.held why d in
      let phase_is : (m.links k).phase ≡ dialling =
      ap (λ (c : control.Machine). (c.links k).phase) steps.1 ∙ ap (λ (b : Bool). (cond b new d).phase) (eqb-self k)
      ∙ ap (λ w. (control.dialled_for g.id to x.control.held w d).phase) steps.0.3 in
      new_one x y whose owned told agrees k (dialled_for why) (bears false) (new_number k birth)
      (control_goes g x points stands (point.entry (e.Dialled k to why)) m steps)
      (subst (λ (w : Owner). ByOwner w y k (dialled false)) (sym (ap dialled_for steps.0.3))
      (into (m.links k).phase dialling phase_is (dialled false) refl)) n
  control_each (e.Opened k) m steps birth own n =
      let y = with_control (point.entry (e.Opened k)) m x in
      let d = x.control.links k in
      let phase_is : (m.links k).phase ≡ live =
      ap (λ (c : control.Machine). (c.links k).phase) steps.1 ∙ ap (λ (b : Bool). (cond b (control.with_phase opened d) d).phase) (eqb-self k)
      ∙ ap opened steps.0.1 in
      touch x y whose owned told agrees k control_plane opens_it own
      (control_goes g x points stands (point.entry (e.Opened k)) m steps)
      (λ old. into (m.links k).phase live phase_is (opens_it (told k)) (ap opens_it (from d.phase dialling steps.0.1 (told k) old))) n
  control_each (e.Closed k why) m steps birth own n =
      let y = with_control (point.entry (e.Closed k why)) m x in
      let d = x.control.links k in
      let phase_is : (m.links k).phase ≡ closed =
      ap (λ (c : control.Machine). (c.links k).phase) steps.1
      ∙ ap (λ (b : Bool). (cond b (control.with_phase (λ p. closed) d) d).phase) (eqb-self k) in
      touch x y whose owned told agrees k control_plane seen.closes own
      (control_goes g x points stands (point.entry (e.Closed k why)) m steps)
      (λ old. into (m.links k).phase closed phase_is (seen.closes (told k)) refl) n
  control_each (e.Accepted k d) m steps birth own n = absurd steps.0
  control_each (e.Shut k) m steps birth own n = absurd steps.0
  control_each z m steps birth own n =
      still x (with_control (point.entry z) m x) whose owned told agrees (control_goes g x points stands (point.entry z) m steps) n

  link_each : (l : ℕ) (z : Entry) (next : Inbound) → runs.Steps l (local x l) (part.entry z) (runs.with_link next (local x l))
      → BirthMayCome x z → PartStands (entries points) l (part.entry z) → (n : ℕ) → AgreesBehind z (with_part l (part.entry z) next x) n
  link_each l (e.Accepted k d) next steps birth own n =
      let y = with_part l (part.entry (e.Accepted k d)) next x in
      let is_next : next ≡ inbound.with_phase inbound.arriving (x.inbound l) = ap (λ (c : runs.Local). c.link) steps.1 in
      let phase_is : (y.inbound k).phase ≡ inbound.arriving =
      ap (λ (b : Bool). (cond b next (x.inbound k)).phase) (eq-eqb k l steps.0.0) ∙ ap (λ (v : Inbound). v.phase) is_next in
      new_one x y whose owned told agrees k (at_door d) (bears true) (new_number k birth.0)
      (link_goes g x points stands l (part.entry (e.Accepted k d)) next steps)
      (subst (λ (w : Owner). ByOwner w y k (open_now false)) (sym (ap at_door steps.0.2))
      (subst (λ (p : inbound.Phase). LinkFits p (open_now false)) (sym phase_is) refl)) n
  link_each l (e.Closed k why) next steps birth own n =
      let y = with_part l (part.entry (e.Closed k why)) next x in
      let is_next : next ≡ inbound.with_phase inbound.closed (x.inbound l) = ap (λ (c : runs.Local). c.link) steps.1 in
      let phase_is : (y.inbound k).phase ≡ inbound.closed =
      ap (λ (b : Bool). (cond b next (x.inbound k)).phase) (eq-eqb k l steps.0.0) ∙ ap (λ (v : Inbound). v.phase) is_next in
      touch x y whose owned told agrees k inbound_link seen.closes own.1
      (link_goes g x points stands l (part.entry (e.Closed k why)) next steps)
      (λ old. subst (λ (p : inbound.Phase). LinkFits p (seen.closes (told k))) (sym phase_is) refl) n
  link_each l (e.Dialled k to why) next steps birth own n = absurd steps.0
  link_each l (e.Opened k) next steps birth own n = absurd steps.0
  link_each l (e.Shut k) next steps birth own n = absurd steps.0
  link_each l z next steps birth own n =
      still x (with_part l (part.entry z) next x) whose owned told agrees (link_goes g x points stands l (part.entry z) next steps) n

  -- the tunnel of an upstream's entry
  tunnel_is : (l s : ℕ) (z : Entry) (next : Inbound) → runs.Steps l (local x l) (part.up s z) (runs.with_link next (local x l))
      → ((with_part l (part.up s z) next x).inbound l).tunnels s ≡ up_entered z ((x.inbound l).tunnels s)
  tunnel_is l s z next steps =
      ap (λ (b : Bool). (cond b next (x.inbound l)).tunnels s) (eqb-self l)
      ∙ ap (λ (c : runs.Local). c.link.tunnels s) steps.1
      ∙ ap (λ (b : Bool). cond b (up_entered z ((x.inbound l).tunnels s)) ((x.inbound l).tunnels s)) (eqb-self s)

  -- what fits the tunnel then, fits it in the whole
  up_here : (l s u : ℕ) (z : Entry) (next : Inbound) → runs.Steps l (local x l) (part.up s z) (runs.with_link next (local x l))
      → (v : Look) → UpFits (up_entered z ((x.inbound l).tunnels s)) u v → ByOwner (upstream_of l s) (with_part l (part.up s z) next x) u v
  up_here l s u z next steps v fits = subst (λ (t : Tunnel). UpFits t u v) (sym (tunnel_is l s z next steps)) fits

  up_each : (l s : ℕ) (z : Entry) (next : Inbound) → runs.Steps l (local x l) (part.up s z) (runs.with_link next (local x l))
      → BirthMayCome x z → PartStands (entries points) l (part.up s z) → (n : ℕ) → AgreesBehind z (with_part l (part.up s z) next x) n
  up_each l s (e.Dialled u to why) next steps birth own n =
      let z = e.Dialled u to why in
      let y = with_part l (part.up s z) next x in
      let t = (x.inbound l).tunnels s in
      let unshut : t.shut ≡ false = subst (λ (stage : Stage). DueBy stage t.shut) steps.0.1 (agrees.due l s) in
      new_one x y whose owned told agrees u (dialled_for why) (bears false) (new_number u birth)
      (link_goes g x points stands l (part.up s z) next steps)
      (subst (λ (w : Owner). ByOwner w y u (dialled false)) (sym (ap dialled_for steps.0.4))
      (up_here l s u z next steps (dialled false) (refl, ap dialled (sym unshut)))) n
  up_each l s (e.Opened u) next steps birth own n =
      let z = e.Opened u in
      let y = with_part l (part.up s z) next x in
      let t = (x.inbound l).tunnels s in
      touch x y whose owned told agrees u (upstream_of l s) opens_it own (link_goes g x points stands l (part.up s z) next steps)
      (λ old. up_here l s u z next steps (opens_it (told u))
      (old.0, ap opens_it (subst (λ (stage : Stage). StageFits stage t.shut (told u)) steps.0.1 old.1))) n
  up_each l s (e.Shut u) next steps birth own n =
      let z = e.Shut u in
      let y = with_part l (part.up s z) next x in
      let t = (x.inbound l).tunnels s in
      touch x y whose owned told agrees u (upstream_of l s) shuts own (link_goes g x points stands l (part.up s z) next steps)
      (λ old. up_here l s u z next steps (shuts (told u)) (
        old.0,
        subst (λ (stage : Stage). StageFits stage true (shuts (told u))) (sym steps.0.1)
            (ap shuts (subst (λ (stage : Stage). StageFits stage t.shut (told u)) steps.0.1 old.1)),
      )) n
  up_each l s (e.Closed u why) next steps birth own n =
      let z = e.Closed u why in
      let y = with_part l (part.up s z) next x in
      touch x y whose owned told agrees u (upstream_of l s) seen.closes own (link_goes g x points stands l (part.up s z) next steps)
      (λ old. up_here l s u z next steps (seen.closes (told u)) (old.0, refl)) n
  up_each l s (e.Accepted k d) next steps birth own n = absurd steps.0
  up_each l s z next steps birth own n =
      still x (with_part l (part.up s z) next x) whose owned told agrees (link_goes g x points stands l (part.up s z) next steps) n

  -- A PLAIN LINK

  abbrev plain_behind : (l : ℕ) → plain_part.Part → Machine
  plain_behind l p = with_plain l p (plain.next_link (x.plain l) p) x

  -- the link and its upstream then
  plain_now : (l : ℕ) (p : plain_part.Part) → (plain_behind l p).plain l ≡ plain.next_link (x.plain l) p
  plain_now l p = ap (λ (b : Bool). cond b (plain.next_link (x.plain l) p) (x.plain l)) (eqb-self l)

  -- what fits the link, or its upstream, then, fits it in the whole
  plain_here : (l k : ℕ) (p : plain_part.Part) → k ≡ l → (v : Look) → PlainFits (plain.next_link (x.plain l) p) v
      → ByOwner plain_link (plain_behind l p) k v
  plain_here l k p is v fits =
      subst (λ (i : ℕ). PlainFits ((plain_behind l p).plain i) v) (sym is)
      (subst (λ (c : Captured). PlainFits c v) (sym (plain_now l p)) fits)

  relay_here : (l u : ℕ) (p : plain_part.Part) (v : Look) → RelayFits (plain.next_link (x.plain l) p) u v
      → ByOwner (relay_of l) (plain_behind l p) u v
  relay_here l u p v fits = subst (λ (c : Captured). RelayFits c u v) (sym (plain_now l p)) fits

  plain_each : (l : ℕ) (z : Entry) → plain.MayGo l (plain_local x l) (plain_part.entry z) → BirthMayCome x z
      → PlainStands (entries points) l (plain_part.entry z) → (n : ℕ) → AgreesBehind z (plain_behind l (plain_part.entry z)) n
  plain_each l (e.Accepted k d) may birth own n =
      let z = plain_part.entry (e.Accepted k d) in
      let c = x.plain l in
      let none = subst (λ (s : captured.Stage). PlainDueBy s (is_raw c) c.up_shut c.shut c.closed) may.1 (agrees.plain_due l) in
      new_one x (plain_behind l z) whose owned told agrees k (at_door d) (bears true) (new_number k birth.0)
      (plain_goes g x points stands l z may)
      (subst (λ (w : Owner). ByOwner w (plain_behind l z) k (open_now false)) (sym (caught d may.2))
      (plain_here l k z may.0 (open_now false) (ap₂ here_now (sym none.2) (sym none.3)))) n
  plain_each l (e.Shut k) may birth own n =
      let z = plain_part.entry (e.Shut k) in
      let c = x.plain l in
      touch x (plain_behind l z) whose owned told agrees k plain_link shuts own.1 (plain_goes g x points stands l z may)
      (λ old. plain_here l k z may.0 (shuts (told k))
      (subst (λ (s : captured.Stage). PlainFitsBy s true c.closed (shuts (told k))) (sym may.2)
      (ap shuts (born_fits c.stage c.shut c.closed (told k) (subst (λ (i : ℕ). PlainFits (x.plain i) (told k)) may.0 old))))) n
  plain_each l (e.Closed k why) may birth own n =
      let z = plain_part.entry (e.Closed k why) in
      let c = x.plain l in
      touch x (plain_behind l z) whose owned told agrees k plain_link seen.closes own.1 (plain_goes g x points stands l z may)
      (λ old. plain_here l k z may.0 (seen.closes (told k))
      (subst (λ (s : captured.Stage). PlainFitsBy s c.shut true (seen.closes (told k))) (sym may.2)
      (ap seen.closes (born_fits c.stage c.shut c.closed (told k) (subst (λ (i : ℕ). PlainFits (x.plain i) (told k)) may.0 old))))) n
  plain_each l (e.Dialled k to why) may birth own n = absurd may
  plain_each l (e.Opened k) may birth own n = absurd may
  plain_each l z may birth own n =
      still x (plain_behind l (plain_part.entry z)) whose owned told agrees (plain_goes g x points stands l (plain_part.entry z) may) n

  -- what fits an upstream where its link is at this stage
  relay_was : (l u : ℕ) (stage : captured.Stage) → (x.plain l).stage ≡ stage → RelayFits (x.plain l) u (told u)
      → RelayFitsBy stage (x.plain l).up (x.plain l).up_shut u (told u)
  relay_was l u stage is old =
      subst (λ (s : captured.Stage). RelayFitsBy s (x.plain l).up (x.plain l).up_shut u (told u)) is old.1

  relay_each : (l : ℕ) (z : Entry) → plain.MayGo l (plain_local x l) (plain_part.up z) → BirthMayCome x z
      → PlainStands (entries points) l (plain_part.up z) → (n : ℕ) → AgreesBehind z (plain_behind l (plain_part.up z)) n
  relay_each l (e.Dialled u to why) may birth own n =
      let z = plain_part.up (e.Dialled u to why) in
      let c = x.plain l in
      let none = subst (λ (s : captured.Stage). PlainDueBy s (is_raw c) c.up_shut c.shut c.closed) may.0.1 (agrees.plain_due l) in
      new_one x (plain_behind l z) whose owned told agrees u (dialled_for why) (bears false) (new_number u birth)
      (plain_goes g x points stands l z may)
      (subst (λ (w : Owner). ByOwner w (plain_behind l z) u (dialled false)) (sym (relayed l c why may.1 may.0.3))
      (relay_here l u z (dialled false) (none.1, (refl, ap dialled (sym none.0))))) n
  relay_each l (e.Opened u) may birth own n =
      let z = plain_part.up (e.Opened u) in
      touch x (plain_behind l z) whose owned told agrees u (relay_of l) opens_it own (plain_goes g x points stands l z may)
      (λ old. let was = relay_was l u captured.opening may.0.1 old in
      relay_here l u z (opens_it (told u)) (old.0, (was.0, ap opens_it was.1))) n
  relay_each l (e.Shut u) may birth own n =
      let z = plain_part.up (e.Shut u) in
      let c = x.plain l in
      touch x (plain_behind l z) whose owned told agrees u (relay_of l) shuts own (plain_goes g x points stands l z may)
      (λ old. let was = relay_was l u captured.live may.1 old in
      relay_here l u z (shuts (told u))
      (old.0, subst (λ (s : captured.Stage). RelayFitsBy s c.up true u (shuts (told u))) (sym may.1) (was.0, ap shuts was.1))) n
  relay_each l (e.Closed u why) may birth own n =
      let z = plain_part.up (e.Closed u why) in
      let c = x.plain l in
      touch x (plain_behind l z) whose owned told agrees u (relay_of l) seen.closes own (plain_goes g x points stands l z may)
      (λ old. relay_here l u z (seen.closes (told u))
      (old.0, subst (λ (s : captured.Stage). RelayFitsBy s 0 c.up_shut u (seen.closes (told u))) (sym may.1) (inr (refl, refl)))) n
  relay_each l (e.Accepted k d) may birth own n = absurd may
  relay_each l z may birth own n =
      still x (plain_behind l (plain_part.up z)) whose owned told agrees (plain_goes g x points stands l (plain_part.up z) may) n

  -- A LINK TO A GATEWAY

  -- what fits it then, fits it in the whole
  gate_here : (n k : ℕ) (p : gateway.Part) (next : Gateway) → k ≡ n → (v : Look) → GateFits next.phase v
      → ByOwner gate_owner (with_gate n p next x) k v
  gate_here n k p next is v fits =
      subst (λ (b : Bool). GateFits (cond b next (x.gates k)).phase v) (sym (eq-eqb k n is)) fits

  gate_each : (n : ℕ) (z : Entry) (next : Gateway) → gateways.Steps n (x.gates n) (gateway.entry z) next
      → GateStands (entries points) n (gateway.entry z) → (k : ℕ) → AgreesBehind z (with_gate n (gateway.entry z) next x) k
  gate_each n (e.Opened k) next steps own j =
      let p = gateway.entry (e.Opened k) in
      touch x (with_gate n p next x) whose owned told agrees k gate_owner opens_it own.1 (gate_goes g x points stands n p next steps)
      (λ old. gate_here n k p next steps.0.0 (opens_it (told k))
      (subst (λ (y : Gateway). GateFits y.phase (opens_it (told k))) (sym steps.1)
      (ap opens_it (subst (λ (phase : gateway_link.Phase). GateFits phase (told k)) steps.0.1.1
      (subst (λ (i : ℕ). GateFits (x.gates i).phase (told k)) steps.0.0 old))))) j
  gate_each n (e.Closed k why) next steps own j =
      let p = gateway.entry (e.Closed k why) in
      touch x (with_gate n p next x) whose owned told agrees k gate_owner seen.closes own.1 (gate_goes g x points stands n p next steps)
      (λ old. gate_here n k p next steps.0.0 (seen.closes (told k))
      (subst (λ (y : Gateway). GateFits y.phase (seen.closes (told k))) (sym steps.1) refl)) j
  gate_each n (e.Accepted k d) next steps own j = absurd steps.0
  gate_each n (e.Dialled k to why) next steps own j = absurd steps.0
  gate_each n (e.Shut k) next steps own j = absurd steps.0
  gate_each n z next steps own j =
      still x (with_gate n (gateway.entry z) next x) whose owned told agrees (gate_goes g x points stands n (gateway.entry z) next steps) j

  gate_dialled : (n : ℕ) (z : Entry) (key : Key) (next : Gateway) → gateways.Steps n (x.gates n) (gateway.dialled z key) next
      → BirthMayCome x z → (k : ℕ) → AgreesBehind z (with_gate n (gateway.dialled z key) next x) k
  gate_dialled n z key next steps birth =
      let dial = (birth_at n (x.gates n) z key steps.0).0 in
      let p = gateway.dialled z key in
      let y = with_gate n p next x in
      let born : e.Dialled dial.0 dial.3 (whys.Gateway dial.2) ≡ z = sym dial.4 in
      subst (λ (v : Entry). (k : ℕ) → AgreesBehind v y k) born
      (λ k. new_one x y whose owned told agrees dial.0 gate_owner (bears false)
      (new_number dial.0 (subst (BirthMayCome x) dial.4 birth)) (gate_goes g x points stands n p next steps)
      (gate_here n dial.0 p next dial.1 (dialled false) (subst (λ (w : Gateway). GateFits w.phase (dialled false)) (sym steps.1) refl)) k)

  -- EVERY PART OF THE WHOLE

  -- what is told behind a point
  abbrev told_after : Point → ℕ → Look
  told_after p n = fold (look_by n) (told n) (entry_in p)

  control_at : (q : point.Point) (m : control.Machine) → model.Steps g x.control q m → ControlGuard x q
      → ControlStands (entries points) q → (n : ℕ)
      → ByOwner (after (of_control q) whose n) (with_control q m x) n (told_after (of_control q) n)
  control_at (point.entry z) m steps guard own n = control_each z m steps guard.birth own n
  control_at q m steps guard own n = still x (with_control q m x) whose owned told agrees (control_goes g x points stands q m steps) n

  link_at : (l : ℕ) (p : Part) (next : Inbound) → runs.Steps l (local x l) p (runs.with_link next (local x l)) → LinkGuard g x l p
      → PartStands (entries points) l p → (n : ℕ)
      → ByOwner (after (of_link l p) whose n) (with_part l p next x) n (told_after (of_link l p) n)
  link_at l (part.entry z) next steps guard own n = link_each l z next steps guard.birth own n
  link_at l (part.up s z) next steps guard own n = up_each l s z next steps guard.birth own n
  link_at l p next steps guard own n =
      still x (with_part l p next x) whose owned told agrees (link_goes g x points stands l p next steps) n

  plain_at : (l : ℕ) (p : plain_part.Part) → plain.MayGo l (plain_local x l) p → PlainGuard g x l p → PlainStands (entries points) l p
      → (n : ℕ) → ByOwner (after (of_plain l p) whose n) (plain_behind l p) n (told_after (of_plain l p) n)
  plain_at l (plain_part.entry z) may guard own n = plain_each l z may guard.birth own n
  plain_at l (plain_part.up z) may guard own n = relay_each l z may guard.0.birth own n
  plain_at l p may guard own n = still x (plain_behind l p) whose owned told agrees (plain_goes g x points stands l p may) n

  gate_at : (n : ℕ) (p : gateway.Part) (next : Gateway) → gateways.Steps n (x.gates n) p next → GateGuard g x n p
      → GateStands (entries points) n p → (k : ℕ)
      → ByOwner (after (of_gate n p) whose k) (with_gate n p next x) k (told_after (of_gate n p) k)
  gate_at n (gateway.entry z) next steps guard own k = gate_each n z next steps own k
  gate_at n (gateway.dialled z key) next steps guard own k = gate_dialled n z key next steps guard.0.birth k
  gate_at n p next steps guard own k =
      still x (with_gate n p next x) whose owned told agrees (gate_goes g x points stands n p next steps) k

  step_agrees : (p : Point) (y : Machine) → Steps g x p y → Agrees y (after p whose) (told_after p)
  step_agrees (of_control q) y steps =
      subst (λ (z : Machine). Agrees z (after (of_control q) whose) (told_after (of_control q))) (sym steps.3) (record {
        each = control_at q steps.0 steps.1 steps.2 (own_at g x points owned (of_control q) y steps);
        due = λ l s. (((control_goes g x points stands q steps.0 steps.1).links l).tunnels s).due (agrees.due l s);
        plain_due = λ l. ((control_goes g x points stands q steps.0 steps.1).plain l).due (agrees.plain_due l);
      })
  step_agrees (of_link l p) y steps =
      subst (λ (z : Machine). Agrees z (after (of_link l p) whose) (told_after (of_link l p))) (sym steps.3) (record {
        each = link_at l p steps.0 steps.1 steps.2 (own_at g x points owned (of_link l p) y steps);
        due = λ j s. (((link_goes g x points stands l p steps.0 steps.1).links j).tunnels s).due (agrees.due j s);
        plain_due = agrees.plain_due;
      })
  step_agrees (of_plain l p) y steps =
      subst (λ (z : Machine). Agrees z (after (of_plain l p) whose) (told_after (of_plain l p))) (sym steps.2) (record {
        each = plain_at l p steps.0 steps.1 (own_at g x points owned (of_plain l p) y steps);
        due = agrees.due;
        plain_due = λ j. ((plain_goes g x points stands l p steps.0).plain j).due (agrees.plain_due j);
      })
  step_agrees (of_gate n p) y steps =
      subst (λ (z : Machine). Agrees z (after (of_gate n p) whose) (told_after (of_gate n p))) (sym steps.3) (record {
        each = gate_at n p steps.0 steps.1 steps.2 (own_at g x points owned (of_gate n p) y steps);
        due = agrees.due;
        plain_due = agrees.plain_due;
      })
  step_agrees (of_stream l n s w) y steps =
      let goes = stream_goes g x points stands l n s w steps.1 steps.0 steps.2 in
      subst (λ (z : Machine). Agrees z (after (of_stream l n s w) whose) (told_after (of_stream l n s w))) (sym steps.4) (record {
        each = still x (with_stream l n (plain.next_link (x.plain l) (captured_part n s w)) steps.1 x) whose owned told agrees goes;
        due = agrees.due;
        plain_due = λ j. (goes.plain j).due (agrees.plain_due j);
      })

-- EVERY RUN

-- what the trace of a run tells of each link
abbrev pub told_in : List Point → ℕ → Look
told_in points n = look n (entries points)

told_one : (points : List Point) (p : Point) (n : ℕ) → told_in (points ++ p ∷ []) n ≡ fold (look_by n) (told_in points n) (entry_in p)
told_one points p n =
    ap (λ (t : List Entry). look n t) (one_more entry_in points p) ∙ fold-append (look_by n) unseen (entries points) (entry_in p)

pub all_agree : (g : NodeConfig) (x : Machine) (points : List Point) → StandsFor g x points → Agrees x (whose_in points) (told_in points)
all_agree g x points (begins is empty) =
    subst (λ (ps : List Point). Agrees x (whose_in ps) (told_in ps)) (sym empty)
    (subst (λ (z : Machine). Agrees z (λ n. nobody) (λ n. unseen)) (sym is)
    (record { each = λ n. refl; due = λ l s. tt; plain_due = λ l. (refl, refl, refl, refl) }))
all_agree g y more (goes_on {x = x} {points = points} stands p steps are) =
    let next = step_agrees g x points stands (told_in points) (all_agree g x points stands) p y steps in
    subst (λ (ps : List Point). Agrees y (whose_in ps) (told_in ps)) (sym are) (record {
      each = λ n. subst (λ (v : Look). ByOwner (whose_in (points ++ p ∷ []) n) y n v) (sym (told_one points p n))
          (subst (λ (o : Owner). ByOwner o y n (fold (look_by n) (told_in points n) (entry_in p))) (sym (whose_one points p n)) (next.each n));
      due = next.due;
      plain_due = next.plain_due;
    })
