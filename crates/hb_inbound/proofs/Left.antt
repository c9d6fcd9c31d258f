-- What is left of a tunnel whose stream has got what it gets.
use Rattle.std.proofs.Common.{◌≡◌, ◌⊎◌, inl, inr, ⊎_elim, ℕ, ◌==◌, false, Option, refl, sym, subst}
use Rattle.std.proofs.lemmas.Bool.{cond_both}
use Rattle.hb_base.specs.declared.cause.Cause.{Cause}
use Rattle.hb_base.specs.declared.note.Note.{Note}
use Rattle.hb_inbound.specs.Inbound.{Inbound}
use Rattle.hb_inbound.specs.Runs.{Refuses, Resets, Leaves}
use Rattle.hb_inbound.specs.Tunnel.{Tunnel, Stage, unasked, requested, refusing, malformed, due, opening, accepting, live, failed, ended, over, gone, takes_place, at_stage, left_with}

-- nothing, or the close of its upstream
abbrev pub IsLeft : Tunnel → Tunnel → Type 0
IsLeft old new = (new ≡ at_stage gone old) ⊎ ((why : Cause) × (new ≡ left_with why old))

-- what holds with any stage that it may have holds of it
pub left_so : (P : Tunnel → Type 0) (old new : Tunnel) → P (at_stage gone old) → ((why : Cause) → P (at_stage (over why) old))
    → IsLeft old new
    → P new
left_so P old new at_gone at_over is =
    ⊎_elim (λ h. subst P (sym h) at_gone)
    (λ h. subst P (sym h.1) (cond_both (old.up == 0) gone (over h.0) (λ stage. P (at_stage stage old)) (λ is. at_gone) (λ is. at_over h.0)))
    is

-- it has no place, and its target stays
pub left_placeless : (old new : Tunnel) → IsLeft old new → (takes_place new.stage ≡ false) × (new.target ≡ old.target)
left_placeless old new is =
    left_so (λ (t : Tunnel). (takes_place t.stage ≡ false) × (t.target ≡ old.target)) old new (refl, refl) (λ why. (refl, refl)) is

module _ (x : Inbound) (l s n : ℕ) where
  -- where nothing was asked for nothing is refused, reset or left
  pub refuses_asked : (stage : Stage) (made : Note) (next : Tunnel) → Refuses l s x stage n made next → stage ≡ unasked → ⊥
  refuses_asked stage made next is none = subst (λ (st : Stage). Refuses l s x st n made next) none is

  pub resets_asked : (stage : Stage) (made : Note) (next : Tunnel) → Resets l s x stage n made next → stage ≡ unasked → ⊥
  resets_asked stage made next is none = subst (λ (st : Stage). Resets l s x st n made next) none is

  pub leaves_asked : (stage : Stage) (made : Option Note) (next : Tunnel) → Leaves l s x stage made next → stage ≡ unasked → ⊥
  leaves_asked stage made next is none = subst (λ (st : Stage). Leaves l s x st made next) none is

  pub refuses_left : (stage : Stage) (made : Note) (next : Tunnel) → Refuses l s x stage n made next → IsLeft (x.tunnels s) next
  refuses_left (refusing status target) made next is = inl is.2
  refuses_left (failed why) made next is = inr (why, is.3)
  refuses_left unasked made next is = absurd is
  refuses_left (requested headers end) made next is = absurd is
  refuses_left malformed made next is = absurd is
  refuses_left due made next is = absurd is
  refuses_left opening made next is = absurd is
  refuses_left accepting made next is = absurd is
  refuses_left live made next is = absurd is
  refuses_left (ended why) made next is = absurd is
  refuses_left (over why) made next is = absurd is
  refuses_left gone made next is = absurd is

  pub resets_left : (stage : Stage) (made : Note) (next : Tunnel) → Resets l s x stage n made next → IsLeft (x.tunnels s) next
  resets_left malformed made next is = inl is.2
  resets_left (ended why) made next is = inr (why, is.3)
  resets_left unasked made next is = absurd is
  resets_left (requested headers end) made next is = absurd is
  resets_left (refusing status target) made next is = absurd is
  resets_left due made next is = absurd is
  resets_left opening made next is = absurd is
  resets_left accepting made next is = absurd is
  resets_left live made next is = absurd is
  resets_left (failed why) made next is = absurd is
  resets_left (over why) made next is = absurd is
  resets_left gone made next is = absurd is

  pub leaves_left : (stage : Stage) (made : Option Note) (next : Tunnel) → Leaves l s x stage made next → IsLeft (x.tunnels s) next
  leaves_left (failed why) made next is = inr (why, is.3)
  leaves_left (ended why) made next is = inr (why, is.3)
  leaves_left unasked made next is = absurd is
  leaves_left (requested headers end) made next is = absurd is
  leaves_left (refusing status target) made next is = absurd is
  leaves_left malformed made next is = absurd is
  leaves_left due made next is = absurd is
  leaves_left opening made next is = absurd is
  leaves_left accepting made next is = absurd is
  leaves_left live made next is = absurd is
  leaves_left (over why) made next is = absurd is
  leaves_left gone made next is = absurd is
