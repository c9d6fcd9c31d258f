-- Streams of the code, and those of the machine.
use Rattle.std.proofs.Common.{◌≡◌, ◌⊎◌, inl, inr, ℕ, ◌^◌, ◌≤◌, Bool, true, false, cond, is_some, IsSome, Option, Some, None, refl, ap, sym, ◌∙◌, subst, arith}
use Rattle.std.proofs.lemmas.Bool.{cases_lt}
use Rattle.std.proofs.lemmas.Bool.Decides.{nat_tests}
use Rattle.std.specs.Prelude.{nat_le}
use Rattle.std.specs.Option.{option_map}
use Rattle.std.specs.FinMap.{get}
use Rattle.hb_base.specs.declared.cause.Cause.{Cause}
use Rattle.hb_frames.specs.Numbers.{largest}
use Rattle.hb_gateway.specs.Gateway as m
use Rattle.hb_gateway.specs.Hears.{after, hearing, left_behind}
use Rattle.hb_gateway.specs.Part.{Part}
use Rattle.hb_gateway.specs.Response as r
use Rattle.hb_gateway.specs.Response.{failed, is_living}
use Rattle.hb_gate.specs.Phases.{stage_of}
use Rattle.hb_gate.specs.Shows.{IsStream, ShowsStream}
use Rattle.hb_gate.specs.Streams.{Map, ended_at, ended_here, EndsFrom}
use Rattle.hb_gate.specs.declared.stream.Stage.{Stage}
use Rattle.hb_gate.specs.declared.stream.Stage.TheVariants.{Asked, Carrying, Failing, Over}
use Rattle.hb_gate.specs.declared.stream.Stream.{Stream}

-- A STREAM WHOSE TUNNEL HEARS ITS END

from_zero : (s : ℕ) → nat_le 0 s ≡ true
from_zero s = grind (arith, nat_tests)

module _ (p : Part) (why : Cause) (left : left_behind p why ≡ r.over) where
  abbrev ends : m.Stream → m.Stream
  ends t = hearing (after p t.stage (failed why t.stage)) (failed why t.stage) t

  ends_at : (st : r.Stage) → m.Stream → m.Stream
  ends_at st t = hearing (after p st (failed why st)) (failed why st) t

  ends_by : (st : Stage) (k : Stream) (t : m.Stream) → IsStream (record k { stage = st }) t
      → IsStream (ended_at why st (record k { stage = st })) (ends_at (stage_of st) t)
  unfolding ends_at
  ends_by Asked k t is = record { stage = left; captured = is.captured; mail = refl; begun = is.begun }
  ends_by Carrying k t is = record { stage = left; captured = is.captured; mail = refl; begun = is.begun }
  ends_by (Failing code) k t is = record { stage = refl; captured = is.captured; mail = is.mail; begun = is.begun }
  ends_by Over k t is = record { stage = refl; captured = is.captured; mail = is.mail; begun = is.begun }

  none_ends : (st : r.Stage) (t : m.Stream) → (st ≡ r.unused) ⊎ (st ≡ r.over) → t.mail ≡ None → ShowsStream None (ends_at st t)
  unfolding ends_at
  none_ends st t (inl is) mail = subst (λ (st : r.Stage). ShowsStream None (ends_at st t)) (sym is) (inl refl, mail)
  none_ends st t (inr is) mail = subst (λ (st : r.Stage). ShowsStream None (ends_at st t)) (sym is) (inr refl, mail)

  pub ends_shown : (o : Option Stream) (t : m.Stream) → ShowsStream o t → ShowsStream (option_map (ended_here why) o) (ends t)
  unfolding ends_at
  ends_shown None t shown = none_ends t.stage t shown.0 shown.1
  ends_shown (Some k) t shown =
      subst (λ (st : r.Stage). IsStream (ended_here why k) (ends_at st t)) (sym shown.stage) (ends_by k.stage k t shown)

  -- so each does from a stream on
  pub some_end : (low : ℕ) (old new : Map) (others : ℕ → m.Stream) → EndsFrom low why old new
      → ((s : ℕ) → ShowsStream (get old s) (others s)) → ((s : ℕ) → IsSome (get old s) → s ≤ largest)
      → (s : ℕ) → ShowsStream (get new s) (cond (nat_le low s) (ends (others s)) (others s))
  some_end low old new others changed shown numbered s = elim (cases_lt s (2 ^ 32)) [
    | inl less ↦
        subst (λ (o : Option Stream). ShowsStream o (cond (nat_le low s) (ends (others s)) (others s))) (sym (changed.below s less))
        (here (nat_le low s))
    | inr more ↦
        subst (λ (o : Option Stream). ShowsStream o (cond (nat_le low s) (ends (others s)) (others s))) (sym (changed.behind s more))
        (by more (nat_le low s) (get old s) refl (shown s))
  ]
    where
      here : (b : Bool) → ShowsStream (cond b (option_map (ended_here why) (get old s)) (get old s)) (cond b (ends (others s)) (others s))
      here true = ends_shown (get old s) (others s) (shown s)
      here false = shown s

      by : 2 ^ 32 ≤ s → (b : Bool) (o : Option Stream) → get old s ≡ o → ShowsStream o (others s)
          → ShowsStream o (cond b (ends (others s)) (others s))
      by more true None is shown = ends_shown None (others s) shown
      by more false None is shown = shown
      by more b (Some k) is shown = absurd (let few = numbered s (ap is_some is) in omega (arith, few, more))

  -- and all from the first on
  pub all_end : (old new : Map) (others : ℕ → m.Stream) → EndsFrom 0 why old new
      → ((s : ℕ) → ShowsStream (get old s) (others s)) → ((s : ℕ) → IsSome (get old s) → s ≤ largest)
      → (s : ℕ) → ShowsStream (get new s) (ends (others s))
  all_end old new others changed shown numbered s =
      subst (λ (b : Bool). ShowsStream (get new s) (cond b (ends (others s)) (others s))) (from_zero s)
      (some_end 0 old new others changed shown numbered s)

-- no stream is there that wasn't
pub some_before : (low : ℕ) (old new : Map) (why : Cause) → EndsFrom low why old new → (s : ℕ) → IsSome (get new s) → IsSome (get old s)
some_before low old new why ends s some = elim (cases_lt s (2 ^ 32)) [
  | inl less ↦ by (nat_le low s) (get old s) refl (sym (ap is_some (ends.below s less)) ∙ some)
  | inr more ↦ sym (ap is_some (ends.behind s more)) ∙ some
]
  where
    by : (b : Bool) (o : Option Stream) → get old s ≡ o → IsSome (cond b (option_map (ended_here why) o) o) → IsSome o
    by true None is now = now
    by false None is now = now
    by b (Some k) is now = refl
