-- A walk over the streams of a link.
use Rattle.std.proofs.Common.{◌≡◌, inl, inr, ℕ, ◌+◌, ◌-◌, ◌^◌, ◌<◌, ◌≤◌, Bool, true, false, cond, Option, Some, None, refl, ap, sym, ◌∙◌, arith}
use Rattle.std.specs.Prelude.{nat_le}
use Rattle.std.specs.Option.{option_map}
use Rattle.std.proofs.lemmas.Bool.{cases_eq, cases_lt, cond_both}
use Rattle.std.proofs.lemmas.Bool.Decides.{nat_tests}
use Rattle.std.specs.FinMap.{get}
use Rattle.hb_base.specs.declared.cause.Cause.{Cause}
use Rattle.hb_gate.specs.Streams.{Map, ChangesAt, ChangedBelow, ended_here, ended_from, IsNext}
use Rattle.hb_gate.specs.declared.stream.Stream.{Stream}

-- where the walk stands: behind all streams at its end
abbrev pub place_of : Option ℕ → ℕ
place_of None = 2 ^ 32
place_of (Some stream) = stream

-- how many numbers of streams there are from this one on
abbrev pub left_from : Option ℕ → ℕ
left_from None = 0
left_from (Some first) = 2 ^ 32 - first

-- in front of where the walk stands there is none
pub none_before : (m : Map) (from : ℕ) (next : Option ℕ) → IsNext m from next → (s : ℕ) → from ≤ s → s < place_of next → get m s ≡ None
none_before m from None none s low less = none s low less
none_before m from (Some first) is s low less = is.2 s low less

-- it stands no lower than where it began
pub place_low : (m : Map) (from : ℕ) (next : Option ℕ) → from ≤ 2 ^ 32 → IsNext m from next → from ≤ place_of next
place_low m from None few is = few
place_low m from (Some first) few is = is.0

module _ (change : ℕ → Option Stream → Option Stream) (none : (s : ℕ) → change s None ≡ None) where
  pub begins : (low : ℕ) (old : Map) (next : Option ℕ) → ((s : ℕ) (o : Option Stream) → s < low → change s o ≡ o) → IsNext old low next
      → ChangedBelow change (place_of next) old old
  begins low old next same is = record {
    below = λ s less. elim (cases_lt s low) [
      | inl before ↦ sym (same s (get old s) before)
      | inr from ↦
          let gone = none_before old low next is s from less in
          gone ∙ sym (ap (change s) gone ∙ none s)
    ];
    behind = λ s more. refl;
  }

  pub goes : (old before after : Map) (n : ℕ) (next : Option ℕ) → n < 2 ^ 32 → ChangedBelow change n old before
      → ChangesAt n (change n (get before n)) before after → IsNext after (n + 1) next → ChangedBelow change (place_of next) old after
  goes old before after n next fits done step is = record {
    below = λ s less. elim (cases_lt s n) [
      | inl lower ↦ step.others s (omega (arith, lower)) ∙ done.below s lower
      | inr from ↦ elim (cases_eq s n) [
        | inl same ↦
            ap (get after) same ∙ step.here ∙ ap (change n) (done.behind n (omega arith))
            ∙ sym (ap (λ (j : ℕ). change j (get old j)) same)
        | inr apart ↦
            let gone = none_before after (n + 1) next is s (omega (arith, from, apart)) less in
            let was = sym (done.behind s from) ∙ sym (step.others s apart) ∙ gone in
            gone ∙ sym (ap (change s) was ∙ none s)
      ]
    ];
    behind = λ s more.
        let after_n : n < s = above next is s more in
        step.others s (omega (arith, after_n)) ∙ done.behind s (omega (arith, after_n));
  }
    where
      above : (o : Option ℕ) → IsNext after (n + 1) o → (s : ℕ) → place_of o ≤ s → n < s
      above None is s more = omega (arith, more, fits)
      above (Some first) is s more = let low = is.0 in omega (arith, low, more)

-- nor where there is none
pub none_ends : (low : ℕ) (why : Cause) (s : ℕ) → ended_from low why s None ≡ None
none_ends low why s = cond_both (nat_le low s) None None (λ (o : Option Stream). o ≡ None) (λ is. refl) (λ is. refl)

-- nor in front of the first
pub ends_before : (low : ℕ) (why : Cause) (s : ℕ) (o : Option Stream) → s < low → ended_from low why s o ≡ o
ends_before low why s o less =
    let none : nat_le low s ≡ false = grind (arith, nat_tests, less) in
    ap (λ (b : Bool). cond b (option_map (ended_here why) o) o) none

-- and from there on each does
pub ends_behind : (low : ℕ) (why : Cause) (s : ℕ) (o : Option Stream) → low ≤ s
    → option_map (ended_here why) o ≡ ended_from low why s o
ends_behind low why s o more =
    let some : nat_le low s ≡ true = grind (arith, nat_tests, more) in
    sym (ap (λ (b : Bool). cond b (option_map (ended_here why) o) o) some)
