-- No tunnel lives on a link that ended, in every run.
use Rattle.std.proofs.Common.{◌≡◌, ℕ, ◌==◌, ◌&&◌, Bool, true, false, Some, None, refl, ap, sym, ◌∙◌, subst}
use Rattle.std.proofs.lemmas.Bool.{false≢true, cond_both, and_parts}
use Rattle.hb_base.specs.declared.cause.Cause.{Cause}
use Rattle.hb_base.specs.declared.cause.Cause.TheVariants as cause
use Rattle.hb_conn.specs.declared.found.Found.{Found}
use Rattle.hb_conn.specs.declared.found.Found.TheVariants as found
use Rattle.hb_world.specs.declared.entry.Entry.{Entry}
use Rattle.hb_world.specs.declared.entry.Entry.TheVariants as e
use Rattle.hb_gateway.specs.Calm.{close_due}
use Rattle.hb_gateway.specs.Gateway.{Gateway, Phase, Stream, unborn, opening, serving, faulted, closing, closed, stage_of, at_stage, carries, has_room, is_active, settled, dropped_to, went_by, phase_by, break_cause}
use Rattle.hb_gateway.specs.Hears.{after, all_hear, left_behind}
use Rattle.hb_gateway.specs.Laws.{RunsEndTunnels}
use Rattle.hb_gateway.specs.Part.{Part, entry, dialled, lacked, looked, asks, tells, put, finished, credited, reset, dropped, done, stopped}
use Rattle.hb_gateway.specs.Response.{Stage, unused, asked, carrying, failing, over, cancel, failed, is_living}
use Rattle.hb_gateway.specs.Runs.{MayCome, entered, Carries, Steps, begins, goes_on}

-- behind a failure that leaves it over no tunnel lives
silenced : (p : Part) (why : Cause) (stage : Stage) → left_behind p why ≡ over → is_living (after p stage (failed why stage)) ≡ false
silenced p why unused is = refl
silenced p why asked is = ap is_living is
silenced p why carrying is = ap is_living is
silenced p why (failing code) is = refl
silenced p why over is = refl

went_carries : (phase : Phase) → Carries phase → Carries (went_by phase)
went_carries unborn carries = carries
went_carries opening carries = carries
went_carries serving carries = carries
went_carries (faulted code) carries = absurd (false≢true carries)
went_carries (closing why) carries = carries
went_carries closed carries = carries

due_ended : (phase : Phase) (why : Cause) → close_due phase ≡ Some why → Carries phase → ⊥
due_ended unborn why is carries = false≢true carries
due_ended opening why is carries = cc
due_ended serving why is carries = cc
due_ended (faulted code) why is carries = false≢true carries
due_ended (closing cause) why is carries = false≢true carries
due_ended closed why is carries = false≢true carries

-- so is one that was given up
pub given_up : (s : ℕ) (x : Gateway) → is_living (dropped_to s x) ≡ false
given_up s x =
    cond_both (carries x.phase && is_active x.conn s) (failing cancel) over (λ (t : Stage). is_living t ≡ false) (λ is. refl) (λ is. refl)

-- one that is over where it was to be reset lives no more, nor did it before
pub settled_lives : (active : Bool) (stage : Stage) → is_living (settled active stage) ≡ is_living stage
settled_lives true stage = refl
settled_lives false unused = refl
settled_lives false asked = refl
settled_lives false carrying = refl
settled_lives false (failing code) = refl
settled_lives false over = refl

abbrev pub IsSilent : Gateway → Type 0
IsSilent x = (Carries x.phase → ⊥) → (s : ℕ) → is_living (stage_of x s) ≡ false

module _ (g : ℕ) (x y : Gateway) (silent : IsSilent x) where
  -- a link that carries tunnels still
  still : (phase : Phase) → y.phase ≡ phase → Carries phase → IsSilent y
  still phase is carries ended = absurd (ended (subst Carries (sym is) carries))

  -- one that becomes this
  becomes : (z : Gateway) → y ≡ z → ((s : ℕ) → is_living (stage_of z s) ≡ false) → IsSilent y
  becomes z is none ended s = ap (λ (w : Gateway). is_living (stage_of w s)) is ∙ none s

  -- one whose streams are as they were, and that had ended before
  same : (z : Gateway) → y ≡ z → ((s : ℕ) → stage_of z s ≡ stage_of x s) → (Carries x.phase → Carries z.phase) → IsSilent y
  same z is streams carries ended s =
      ap (λ (w : Gateway). is_living (stage_of w s)) is ∙ ap is_living (streams s)
      ∙ silent (λ had. ended (subst (λ (w : Gateway). Carries w.phase) (sym is) (carries had))) s

  call_silent : (call : Entry) → MayCome g x call → y ≡ entered call (all_hear (entry call) x) → IsSilent y
  call_silent (e.Opened k) may is = still serving (ap (λ (w : Gateway). w.phase) is) refl
  call_silent (e.Came k bytes) may is = same _ is (λ s. refl) (λ had. had)
  call_silent (e.Ended k) may is = becomes _ is (λ s. silenced (entry (e.Ended k)) cause.PeerGone (stage_of x s) refl)
  call_silent (e.Went k bytes) may is = same _ is (λ s. refl) (went_carries x.phase)
  call_silent (e.Broke k) may is = becomes _ is (λ s. silenced (entry (e.Broke k)) (break_cause x.phase) (stage_of x s) refl)
  call_silent (e.Closed k why) may is = same _ is (λ s. refl) (λ had. absurd (due_ended x.phase why may.2 had))
  call_silent (e.Balked how) may is = same _ is (λ s. refl) (λ had. had)
  call_silent (e.Accepted k door) may is = absurd may
  call_silent (e.Dialled k to why) may is = absurd may
  call_silent (e.DialFailed to why) may is = absurd may
  call_silent (e.Shut k) may is = absurd may
  call_silent e.Tick may is = absurd may
  call_silent (e.Wait ready how) may is = absurd may

  told_silent : (told : Found) → y.phase ≡ phase_by serving told
      → ((code : ℕ) → told ≡ found.Fault code → IsSilent y) → IsSilent y
  told_silent (found.Fault code) phase faults = faults code refl
  told_silent found.Silent phase faults = still serving phase refl
  told_silent (found.Opened s end) phase faults = still serving phase refl
  told_silent (found.Chunk s end) phase faults = still serving phase refl
  told_silent (found.Ended s) phase faults = still serving phase refl
  told_silent (found.Reset s code) phase faults = still serving phase refl
  told_silent (found.Broken s code) phase faults = still serving phase refl
  told_silent (found.GoneAway last) phase faults = still serving phase refl

  step_silent : (p : Part) → Steps g x p y → IsSilent y
  step_silent (entry call) steps = call_silent call steps.0 steps.1
  step_silent (dialled call key) steps = still opening (ap (λ (w : Gateway). w.phase) steps.1) refl
  step_silent lacked steps = becomes _ steps.1 (λ s. silenced lacked cause.NoMemory (stage_of x s) refl)
  step_silent (looked ps told headers) steps =
      told_silent told
      (ap (λ (w : Gateway). w.phase) steps.6 ∙ ap (λ (ph : Phase). phase_by ph told) steps.0)
      (λ code is. subst (λ (t : Found). Steps g x (looked ps t headers) y → IsSilent y) (sym is)
      (λ now. becomes _ now.6
      (λ s. settled_lives (is_active now.3 s) (stage_of (all_hear (looked ps (found.Fault code) headers) x) s)
      ∙ silenced (looked ps (found.Fault code) headers) (cause.ConnFault code) (stage_of x s) refl)) steps)
  step_silent (asks s captured authority) steps =
      still x.phase (ap (λ (w : Gateway). w.phase) steps.2) (and_parts (carries x.phase) (has_room x) steps.0).0
  step_silent (tells k heard begun) steps =
      same _ steps.2 (λ s. cond_both (s == k) (record (x.streams s) { mail = None }) (x.streams s) (λ (t : Stream). t.stage ≡ stage_of x s)
      (λ is. refl) (λ is. refl)) (λ had. had)
  step_silent (put s bytes count) steps = still x.phase (ap (λ (w : Gateway). w.phase) steps.4) steps.0.0
  step_silent (finished s) steps = still x.phase (ap (λ (w : Gateway). w.phase) steps.3) steps.0.0
  step_silent (credited s n) steps = still x.phase (ap (λ (w : Gateway). w.phase) steps.2) steps.0.0
  step_silent (reset s code) steps = still x.phase (ap (λ (w : Gateway). w.phase) steps.2) steps.0
  step_silent (dropped k begun) steps = λ ended s.
      ap (λ (w : Gateway). is_living (stage_of w s)) steps.3
      ∙ cond_both (s == k) (at_stage (dropped_to k x) (x.streams s)) (x.streams s) (λ (t : Stream). is_living t.stage ≡ false)
      (λ is. given_up k x) (λ is. silent (λ had. ended (subst (λ (w : Gateway). Carries w.phase) (sym steps.3) had)) s)
  step_silent (done s begun) steps = still x.phase (ap (λ (w : Gateway). w.phase) steps.3) steps.0.0.0
  step_silent (stopped why) steps = becomes _ steps.1 (λ s. silenced (stopped why) why (stage_of x s) refl)

pub end_tunnels : RunsEndTunnels
end_tunnels g x parts (begins is none) ended s = ap (λ (w : Gateway). is_living (stage_of w s)) is
end_tunnels g y more (goes_on {x = x} {parts = parts} before p steps grows) ended s =
    step_silent g x y (end_tunnels g x parts before) p steps ended s
