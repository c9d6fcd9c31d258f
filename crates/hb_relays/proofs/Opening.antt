-- On a link to a gateway that isn't open nothing came, so nothing is left to be looked at.
use Rattle.std.proofs.Common.{◌≡◌, ℕ, Bool, true, false, List, refl, ap, sym, ◌∙◌, subst}
use Rattle.std.proofs.lemmas.Bool.{false≢true}
use Rattle.hb_base.specs.declared.cause.Cause.{Cause}
use Rattle.hb_conn.specs.Observed.{IsLookedAt}
use Rattle.hb_conn.specs.declared.found.Found.{Found}
use Rattle.hb_conn.specs.declared.found.Found.TheVariants as found
use Rattle.hb_gateway.specs.Gateway.{Gateway, Phase, unborn, opening, serving, faulted, closing, closed, phase_by, went_by, broken_by, stops_by}
use Rattle.hb_gateway.specs.Hears.{all_hear}
use Rattle.hb_gateway.specs.Part.{Part, entry, dialled, lacked, looked, asks, tells, put, finished, credited, reset, dropped, done, stopped}
use Rattle.hb_gateway.specs.Runs.{MayCome, entered, Steps, StandsFor, begins, goes_on}
use Rattle.hb_world.specs.declared.entry.Entry.{Entry}
use Rattle.hb_world.specs.declared.entry.Entry.TheVariants as e
use Rattle.hb_proxy.proofs.GateChanges.{birth_at}

abbrev early : Phase → Bool
early unborn = true
early opening = true
early phase = false

went_early : (phase : Phase) → early (went_by phase) ≡ true → early phase ≡ true
went_early unborn is = is
went_early opening is = is
went_early serving is = is
went_early (faulted code) is = is
went_early (closing why) is = is
went_early closed is = is

broken_early : (phase : Phase) → early (broken_by phase) ≡ true → early phase ≡ true
broken_early unborn is = is
broken_early opening is = refl
broken_early serving is = is
broken_early (faulted code) is = is
broken_early (closing why) is = is
broken_early closed is = is

stopped_early : (why : Cause) (phase : Phase) → early (stops_by why phase) ≡ true → early phase ≡ true
stopped_early why unborn is = is
stopped_early why opening is = refl
stopped_early why serving is = is
stopped_early why (faulted code) is = is
stopped_early why (closing first) is = is
stopped_early why closed is = is

found_early : (told : Found) → early (phase_by serving told) ≡ false
found_early found.Silent = refl
found_early (found.Opened s end) = refl
found_early (found.Chunk s end) = refl
found_early (found.Ended s) = refl
found_early (found.Reset s code) = refl
found_early (found.Broken s code) = refl
found_early (found.GoneAway last) = refl
found_early (found.Fault code) = refl

abbrev Looked : Gateway → Type 0
Looked x = early x.phase ≡ true → IsLookedAt x.conn

entry_looked : (g : ℕ) (x : Gateway) (z : Entry) → MayCome g x z → Looked x → Looked (entered z (all_hear (entry z) x))
entry_looked g x (e.Opened k) may looks is = absurd (false≢true is)
entry_looked g x (e.Came k bytes) may looks is = absurd (false≢true (sym (ap early may.1.0.1) ∙ is))
entry_looked g x (e.Ended k) may looks is = absurd (false≢true is)
entry_looked g x (e.Went k bytes) may looks is = looks (went_early x.phase is)
entry_looked g x (e.Broke k) may looks is = looks (broken_early x.phase is)
entry_looked g x (e.Closed k why) may looks is = absurd (false≢true is)
entry_looked g x z may looks is = looks is

step_looked : (g : ℕ) (x y : Gateway) (p : Part) → Steps g x p y → Looked x → Looked y
step_looked g x y (entry z) steps looks = subst Looked (sym steps.1) (entry_looked g x z steps.0 looks)
step_looked g x y (dialled z key) steps looks =
    subst Looked (sym steps.1) (λ is. looks (ap early (birth_at g x z key steps.0).1))
step_looked g x y lacked steps looks = subst Looked (sym steps.1) (λ is. absurd (false≢true is))
step_looked g x y (looked ps told headers) steps looks =
    subst Looked (sym steps.6)
    (λ is. absurd (false≢true (sym (ap (λ (phase : Phase). early (phase_by phase told)) steps.0 ∙ found_early told) ∙ is)))
step_looked g x y (asks s captured authority) steps looks = subst Looked (sym steps.2) looks
step_looked g x y (tells s heard begun) steps looks = subst Looked (sym steps.2) looks
step_looked g x y (put s bytes count) steps looks = subst Looked (sym steps.4) looks
step_looked g x y (finished s) steps looks = subst Looked (sym steps.3) looks
step_looked g x y (credited s n) steps looks = subst Looked (sym steps.2) looks
step_looked g x y (reset s code) steps looks = subst Looked (sym steps.2) looks
step_looked g x y (dropped s begun) steps looks = subst Looked (sym steps.3) looks
step_looked g x y (done s begun) steps looks = subst Looked (sym steps.3) looks
step_looked g x y (stopped why) steps looks = subst Looked (sym steps.1) (λ is. looks (stopped_early why x.phase is))

all_looked : (g : ℕ) (x : Gateway) (parts : List Part) → StandsFor g x parts → Looked x
all_looked g x parts (begins is none) = subst Looked (sym is) (λ early. (refl, refl))
all_looked g y more (goes_on {x = x} {parts = parts} stands p steps are) = step_looked g x y p steps (all_looked g x parts stands)

pub opening_looked : (g : ℕ) (x : Gateway) (parts : List Part) → StandsFor g x parts → x.phase ≡ opening → IsLookedAt x.conn
opening_looked g x parts stands is = all_looked g x parts stands (ap early is)
