-- For which causes a link to a gateway is closed where no call on it failed, its peer didn't end, and the run goes on.
use Rattle.std.proofs.Common.{◌≡◌, ℕ, ◌==◌, Bool, true, false, not, List, [], ◌∷◌, Some, refl, ap, sym, ◌∙◌, subst}
use Rattle.std.specs.List.{list_any}
use Rattle.std.proofs.lemmas.Bool.{false≢true}
use Rattle.std.proofs.lemmas.List.Folds.{list_any-append}
use Rattle.hb_base.specs.declared.cause.Cause.{Cause}
use Rattle.hb_base.specs.declared.cause.Cause.TheVariants as cause
use Rattle.hb_base.specs.declared.door.Why.TheVariants as whys
use Rattle.hb_conn.specs.declared.found.Found.{Found}
use Rattle.hb_conn.specs.declared.found.Found.TheVariants as found
use Rattle.hb_gateway.specs.Calm.{close_due}
use Rattle.hb_gateway.specs.Gateway.{Gateway, Phase, closing, faulted, phase_by, went_by}
use Rattle.hb_gateway.specs.Part as gateway
use Rattle.hb_gateway.specs.Part.{Part}
use Rattle.hb_gateway.specs.Runs as gateway_runs
use Rattle.hb_gateway.specs.Runs.{entered}
use Rattle.hb_model.specs.Inner.{is_stop}
use Rattle.hb_model.specs.Point as point
use Rattle.hb_model.specs.declared.config.NodeConfig.{NodeConfig}
use Rattle.hb_proxy.proofs.Gates.{gates_run}
use Rattle.hb_proxy.specs.Ends.{ends_call}
use Rattle.hb_proxy.specs.Machine.{Machine}
use Rattle.hb_proxy.specs.Owners.{gateway_link}
use Rattle.hb_proxy.specs.Points.{Point, of_control, of_link, of_plain, of_gate, of_stream, entry_in, entries, control_in, control_of, gate_in, gates_of}
use Rattle.hb_proxy.specs.Runs.{Steps, StandsFor}
use Rattle.hb_proxy.specs.Shared.{Shared, asks, tells, puts, finishes, credits, drops, completes, gateway_part}
use Rattle.hb_world.specs.declared.entry.Entry.{Entry}
use Rattle.hb_world.specs.declared.entry.Entry.TheVariants as e
use Rattle.hb_laws.specs.Refused.{dials}
use Rattle.hb_laws.specs.RefusedGateways.{may_come, ClosesGateway}
use Rattle.hb_laws.specs.RefusedOutbound.{accepts_outbound}
use Rattle.hb_laws.proofs.Closing.{close_place}
use Rattle.hb_laws.proofs.Lawful.{goes_at}
use Rattle.hb_laws.proofs.Links.{none_told, none_of_one}
use Rattle.hb_laws.proofs.Tests.{none_of_both}

-- a part is an end of the link, a call that failed, or the end of the run
abbrev ends_part : Part → Bool
ends_part (gateway.entry z) = ends_call z
ends_part (gateway.stopped why) = true
ends_part _ = false

-- it is to be closed for another cause than what came, or want of memory
abbrev has_other : Phase → Bool
has_other (closing why) = not (may_come why)
has_other _ = false

wrote_so : (phase : Phase) → has_other phase ≡ false → has_other (went_by phase) ≡ false
wrote_so (faulted code) none = refl
wrote_so _ none = none

found_so : (phase : Phase) (told : Found) → has_other phase ≡ false → has_other (phase_by phase told) ≡ false
found_so phase (found.Fault code) none = refl
found_so phase _ none = none

entry_so : (z : Entry) (x : Gateway) → ends_call z ≡ false → has_other x.phase ≡ false → has_other (entered z x).phase ≡ false
entry_so (e.Opened k) x goes none = refl
entry_so (e.Ended k) x goes none = absurd (false≢true (sym goes))
entry_so (e.Broke k) x goes none = absurd (false≢true (sym goes))
entry_so (e.Went k bytes) x goes none = wrote_so x.phase none
entry_so (e.Closed k why) x goes none = refl
entry_so _ x goes none = none

step_so : (n : ℕ) (x y : Gateway) (p : Part) → gateway_runs.Steps n x p y → ends_part p ≡ false → has_other x.phase ≡ false
    → has_other y.phase ≡ false
step_so n x y (gateway.entry z) steps goes none = ap (λ (v : Gateway). has_other v.phase) steps.1 ∙ entry_so z _ goes none
step_so n x y (gateway.dialled z key) steps goes none = ap (λ (v : Gateway). has_other v.phase) steps.1
step_so n x y gateway.lacked steps goes none = ap (λ (v : Gateway). has_other v.phase) steps.1
step_so n x y (gateway.looked points told headers) steps goes none =
    ap (λ (v : Gateway). has_other v.phase) steps.6 ∙ found_so x.phase told none
step_so n x y (gateway.asks s captured authority) steps goes none = ap (λ (v : Gateway). has_other v.phase) steps.2 ∙ none
step_so n x y (gateway.tells s heard begun) steps goes none = ap (λ (v : Gateway). has_other v.phase) steps.2 ∙ none
step_so n x y (gateway.put s bytes count) steps goes none = ap (λ (v : Gateway). has_other v.phase) steps.4 ∙ none
step_so n x y (gateway.finished s) steps goes none = ap (λ (v : Gateway). has_other v.phase) steps.3 ∙ none
step_so n x y (gateway.credited s count) steps goes none = ap (λ (v : Gateway). has_other v.phase) steps.2 ∙ none
step_so n x y (gateway.reset s code) steps goes none = ap (λ (v : Gateway). has_other v.phase) steps.2 ∙ none
step_so n x y (gateway.dropped s begun) steps goes none = ap (λ (v : Gateway). has_other v.phase) steps.3 ∙ none
step_so n x y (gateway.done s begun) steps goes none = ap (λ (v : Gateway). has_other v.phase) steps.3 ∙ none
step_so n x y (gateway.stopped why) steps goes none = absurd (false≢true (sym goes))

run_so : (n : ℕ) (x : Gateway) (parts : List Part) → gateway_runs.StandsFor n x parts → list_any ends_part parts ≡ false
    → has_other x.phase ≡ false
run_so n x parts (gateway_runs.begins fresh none) goes = ap (λ (v : Gateway). has_other v.phase) fresh
run_so n y more (gateway_runs.goes_on {x = x} {parts = parts} stands p steps are) goes =
    let both = none_of_both (list_any ends_part parts) (list_any ends_part (p ∷ []))
    (sym (list_any-append ends_part parts (p ∷ [])) ∙ ap (list_any ends_part) (sym are) ∙ goes) in
    step_so n x y p steps (none_of_both (ends_part p) false both.1).0 (run_so n x parts stands both.0)

-- where no link ended or broke in the trace and the run goes on, no part of a link says so
module _ (n : ℕ) where
  seen_ends : (q : point.Point) → is_stop q ≡ false → list_any ends_part (gate_in n (of_control q)) ≡ false
  seen_ends (point.stopped why) none = none
  seen_ends _ none = refl

  here : (g : NodeConfig) (x y : Machine) (p : Point) → Steps g x p y → list_any ends_call (entry_in p) ≡ false
      → list_any is_stop (control_in p) ≡ false → list_any ends_part (gate_in n p) ≡ false
  here g x y (of_control q) steps whole runs = seen_ends q (none_of_both (is_stop q) false runs).0
  here g x y (of_link k p) steps whole runs = refl
  here g x y (of_plain k p) steps whole runs = refl
  here g x y (of_gate k (gateway.stopped why)) steps whole runs = absurd steps.2
  here g x y (of_gate k (gateway.entry z)) steps whole runs =
      none_of_one ends_part (gateway.entry z) (k == n) (none_of_both (ends_call z) false whole).0
  here g x y (of_gate k p) steps whole runs = none_of_one ends_part p (k == n) refl
  here g x y (of_stream l k s w) steps whole runs = none_of_one ends_part (gateway_part l s w) (k == n) (by w)
    where
      by : (w : Shared) → ends_part (gateway_part l s w) ≡ false
      by (asks authority) = refl
      by (tells heard begun) = refl
      by (puts waiting count) = refl
      by finishes = refl
      by (credits count) = refl
      by (drops begun) = refl
      by (completes begun note) = refl

  unended : (g : NodeConfig) (x : Machine) (points : List Point) → StandsFor g x points → list_any ends_call (entries points) ≡ false
      → list_any is_stop (control_of points) ≡ false → has_other (x.gates n).phase ≡ false
  unended g x points stands whole runs =
      run_so n (x.gates n) (gates_of n points) (gates_run g x points n stands)
      (none_told (gate_in n) ends_call ends_part (λ g x y points p stands runs. here g x y p) g x points stands whole runs)

due_so : (phase : Phase) (why : Cause) → close_due phase ≡ Some why → has_other phase ≡ false → may_come why ≡ true
due_so (closing first) why due none =
    let same : first ≡ why = cc in by (may_come first) none (ap may_come same)
  where
    by : (b : Bool) → not b ≡ false → b ≡ may_come why → may_come why ≡ true
    by true none is = sym is
    by false none is = absurd (false≢true (sym none))
due_so (faulted code) why due none = (let same : cause.ConnFault code ≡ why = cc in ap may_come (sym same))
due_so _ why due none = absurd cc

pub closes_gateway : ClosesGateway
closes_gateway to came why other g h =
    let before = dials g ∷ accepts_outbound ∷ e.Came 2 came ∷ e.Dialled 3 to (whys.Gateway 2) ∷ e.Opened 3 ∷ [] in
    let s = close_place g _ before h 3 why gateway_link (sym h.trace_is) refl in
    let at = goes_at g _ h s.front s.p s.rest s.points_are in
    let may = (subst (λ (q : Point). Steps g at.machine q at.next) s.point at.steps).1.0 in
    false≢true
    (sym other
    ∙ due_so (at.machine.gates 3).phase why may.2
    (unended 3 g at.machine s.front at.run (ap (list_any ends_call) s.before_is) s.goes))
