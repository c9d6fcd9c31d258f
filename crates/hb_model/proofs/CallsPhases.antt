-- How far a link is, as its run says it.
use Rattle.std.proofs.Common.{◌≡◌, ◌⊎◌, ℕ, true, false, Option, Some, None, refl, sym, subst, inl, inr, ⊎_elim}
use Rattle.hb_base.specs.declared.cause.Cause.{Cause}
use Rattle.hb_base.specs.declared.cause.Cause.TheVariants as cause
use Rattle.hb_world.proofs.LifeLemmas.{or-true}
use Rattle.hb_model.specs.Discovery.{Discovery, Phase, unborn, dialling, live, faulted, ending, closed, stopped_for, closing, phase_by}
use Rattle.hb_model.specs.Point.{Point}
use Rattle.hb_model.proofs.CallsSaid.{Said, said, joined, nothing, birth, open_link, joined-nothing, eqb-self}
use Rattle.hb_model.proofs.CallsSteps.{Becomes, stays, is_born, opens, peer_ends, breaks, breaks_faulted, writes, writes_faulted, closes, looks, refuses, stops}

-- what a run has said of a link in each phase
unfoldable pub Fits : Phase → Said → Type 0
Fits unborn s = s ≡ nothing
Fits dialling s = s ≡ birth
Fits live s = s ≡ open_link
Fits (faulted code) s = s ≡ open_link
Fits (ending why) s = (s.born ≡ true) × (s.closed ≡ false)
Fits closed s = s.closed ≡ true

-- a link that is to be closed was born, and isn't closed
pub closing-lives : (phase : Phase) (s : Said) (why : Cause) → Fits phase s → closing phase ≡ Some why
    → (s.born ≡ true) × (s.closed ≡ false)
unfolding Fits
closing-lives unborn s why fits is = absurd (cc)
closing-lives dialling s why fits is = absurd (cc)
closing-lives live s why fits is = absurd (cc)
closing-lives (faulted code) s why fits is = rw fits (refl, refl)
closing-lives (ending by) s why fits is = fits
closing-lives closed s why fits is = absurd (cc)

-- what ends a live link leaves it to be closed
pub ended_by : (why : Cause) → ((code : ℕ) × (why ≡ cause.ConnFault code) × (phase_by live (Some why) ≡ faulted code))
    ⊎ (phase_by live (Some why) ≡ ending why)
ended_by cause.Done = inr refl
ended_by (cause.PeerReset code) = inr refl
ended_by cause.PeerGone = inr refl
ended_by cause.UpFault = inr refl
ended_by (cause.UpRefused status) = inr refl
ended_by (cause.ConnFault code) = inl (code, refl, refl)
ended_by (cause.StreamFault code) = inr refl
ended_by cause.GoneAway = inr refl
ended_by cause.Revoked = inr refl
ended_by (cause.FrontFault fault) = inr refl
ended_by (cause.Refused status) = inr refl
ended_by (cause.NoRoute reason) = inr refl
ended_by cause.NoRoom = inr refl
ended_by cause.Discovery = inr refl
ended_by cause.Broken = inr refl
ended_by cause.Stopped = inr refl
ended_by cause.NoMemory = inr refl

-- a point says u of a link of which the run said t
next : (k : ℕ) (p : Point) (s t u : Said) {old new : Phase} → s ≡ t → said k p ≡ u → new ≡ old → Fits old (joined t u)
    → Fits new (joined s (said k p))
next k p s t u {old} {new} was says is fits =
    subst (λ (phase : Phase). Fits phase (joined s (said k p))) (sym is)
    (subst (λ (v : Said). Fits old (joined v (said k p))) (sym was)
    (subst (λ (v : Said). Fits old (joined t v)) (sym says) fits))

looked_at : (o : Option Cause) (s : Said) → s ≡ open_link → Fits (phase_by live o) s
unfolding Fits
looked_at None s is = is
looked_at (Some why) s is =
    ⊎_elim (λ faults. subst (λ (phase : Phase). Fits phase s) (sym faults.2) is)
    (λ ends. subst (λ (phase : Phase). Fits phase s) (sym ends) (rw is (refl, refl))) (ended_by why)

stopped_at : (why : Cause) (phase : Phase) (s : Said) → Fits phase s → Fits (stopped_for why phase) s
unfolding Fits
stopped_at why unborn s fits = fits
stopped_at why dialling s fits = rw fits (refl, refl)
stopped_at why live s fits = rw fits (refl, refl)
stopped_at why (faulted code) s fits = fits
stopped_at why (ending by) s fits = fits
stopped_at why closed s fits = fits

pub fits_next : (k : ℕ) (x y : Discovery) (p : Point) (s : Said) → Fits x.phase s → Becomes k x y p → Fits y.phase (joined s (said k p))
unfolding Fits
fits_next k x y p s fits (stays silent now same) =
    next k p s s nothing refl silent.says now (subst (λ (v : Said). Fits x.phase v) (sym (joined-nothing s)) fits)
fits_next k x y p s fits (is_born to why is was now none) =
    next k p s nothing birth (rw was at fits) (rw (is, eqb-self k) refl) now refl
fits_next k x y p s fits (opens is was now same) =
    next k p s birth (record nothing { opened = true }) (rw was at fits) (rw (is, eqb-self k) refl) now refl
fits_next k x y p s fits (peer_ends is was now) =
    next k p s open_link (record nothing { ended = true }) (rw was at fits) (rw (is, eqb-self k) refl) now (refl, refl)
fits_next k x y p s fits (breaks is was now) =
    ⊎_elim (λ (at : x.phase ≡ dialling). next k p s birth broke (rw at at fits) (rw (is, eqb-self k) refl) now (refl, refl))
    (λ (at : x.phase ≡ live). next k p s open_link broke (rw at at fits) (rw (is, eqb-self k) refl) now (refl, refl)) was
  where
    broke : Said
    broke = record nothing { broke = true }
fits_next k x y p s fits (breaks_faulted code is was now) =
    next k p s open_link (record nothing { broke = true }) (rw was at fits) (rw (is, eqb-self k) refl) now (refl, refl)
fits_next k x y p s fits (writes bytes is was now same) = next k p s open_link nothing (rw was at fits) (rw is refl) now refl
fits_next k x y p s fits (writes_faulted bytes code is was now) =
    next k p s open_link nothing (rw was at fits) (rw is refl) now (refl, refl)
fits_next k x y p s fits (closes why is was now) =
    next k p s s (record nothing { closed = true }) refl (rw (is, eqb-self k) refl) now (or-true s.closed)
fits_next k x y p s fits (looks points told headers is was now same) =
    next k p s open_link nothing (rw was at fits) (rw is refl) now (looked_at _ open_link refl)
fits_next k x y p s fits (refuses is was now) = next k p s open_link nothing (rw was at fits) (rw is refl) now (refl, refl)
fits_next k x y p s fits (stops why is now same) =
    next k p s s nothing refl (rw is refl) now
    (subst (λ (v : Said). Fits (stopped_for why x.phase) v) (sym (joined-nothing s)) (stopped_at why x.phase s fits))
