-- How the counts move with one value.
use Rattle.std.proofs.Common.{◌≡◌, ◌≢◌, ℕ, zero, suc, ◌+◌, ◌<◌, ◌≤◌, ◌^◌, inl, inr, Bool, true, false, refl, ap, ◌∙◌, arith}
use Rattle.std.proofs.lemmas.Bool.{cases_eq}
use Rattle.hb_counted.specs.declared.classes.Classes.{Classes}
use Rattle.hb_counted.specs.declared.counts.Counts.{Counts}
use Rattle.hb_counted.specs.Classes.{in_none, of_none, one_if, how_many_below, how_many, counts_by, shift, moved, Allows, AllowsAll}

-- ONE TEST

one_at_most : (b : Bool) → one_if b ≤ 1
one_at_most true = omega arith
one_at_most false = omega arith

few_below : (test : ℕ → Bool) (n : ℕ) → how_many_below test n ≤ n
few_below test zero = omega arith
few_below test (suc n) = let front = few_below test n in let here = one_at_most (test n) in omega (arith, front, here)

same_below : (test other : ℕ → Bool) (n : ℕ) → ((q : ℕ) → q < n → test q ≡ other q) → how_many_below test n ≡ how_many_below other n
same_below test other zero alike = refl
same_below test other (suc n) alike =
    let front = same_below test other n (λ q less. alike q (omega (arith, less))) in
    let here = ap one_if (alike n (omega arith)) in
    omega (arith, front, here)

apart_below : (test other : ℕ → Bool) (k n : ℕ) → k < n → ((q : ℕ) → q ≢ k → test q ≡ other q)
    → how_many_below other n + one_if (test k) ≡ how_many_below test n + one_if (other k)
apart_below test other k zero none alike = absurd (omega (arith, none))
apart_below test other k (suc n) less alike = elim (cases_eq n k) [
  | inl same ↦
      let front = same_below test other n (λ q before. alike q (omega (arith, same, before))) in
      let mine = ap (λ q. one_if (test q)) same in
      let its = ap (λ q. one_if (other q)) same in
      omega (arith, front, mine, its)
  | inr apart ↦
      let front = apart_below test other k n (omega (arith, less, apart)) alike in
      let here = ap one_if (alike n apart) in
      omega (arith, front, here)
]

some_below : (test : ℕ → Bool) (k n : ℕ) → k < n → one_if (test k) ≤ how_many_below test n
some_below test k zero none = absurd (omega (arith, none))
some_below test k (suc n) less = elim (cases_eq n k) [
  | inl same ↦ let here = ap (λ q. one_if (test q)) same in omega (arith, here)
  | inr apart ↦ let front = some_below test k n (omega (arith, less, apart)) in omega (arith, front)
]

shifts_below : (test other : ℕ → Bool) (k n : ℕ) → k < n → ((q : ℕ) → q ≢ k → test q ≡ other q)
    → shift (how_many_below test n) (test k) (other k) ≡ how_many_below other n
shifts_below test other k n less alike =
    let total = apart_below test other k n less alike in
    let some = some_below test k n less in
    omega (arith, total, some)

same : (test other : ℕ → Bool) → ((q : ℕ) → test q ≡ other q) → how_many test ≡ how_many other
unfolding how_many
same test other alike = same_below test other (2 ^ 32) (λ q less. alike q)

allows : (test : ℕ → Bool) (k : ℕ) → k < 2 ^ 32 → Allows (how_many test) (test k)
unfolding how_many
allows test k fits = (some_below test k (2 ^ 32) fits, few_below test (2 ^ 32))

shifts : (test other : ℕ → Bool) (k : ℕ) → k < 2 ^ 32 → ((q : ℕ) → q ≢ k → test q ≡ other q)
    → shift (how_many test) (test k) (other k) ≡ how_many other
unfolding how_many
shifts test other k fits alike = shifts_below test other k (2 ^ 32) fits alike

never_below : (n : ℕ) → how_many_below (λ q. false) n ≡ 0
never_below zero = refl
never_below (suc n) = let front = never_below n in omega (arith, front)

never : how_many (λ q. false) ≡ 0
unfolding how_many
never = never_below (2 ^ 32)

-- ALL CLASSES

abbrev counts : (places marked due puts ends : ℕ) → Counts
counts places marked due puts ends = record { places = places; marked = marked; due = due; puts = puts; ends = ends }

five : (a b c d e f g h i j : ℕ) → a ≡ f → b ≡ g → c ≡ h → d ≡ i → e ≡ j → counts a b c d e ≡ counts f g h i j
five a b c d e f g h i j places marked due puts ends =
    ap (λ (n : ℕ). counts n b c d e) places ∙ ap (λ (n : ℕ). counts f n c d e) marked ∙ ap (λ (n : ℕ). counts f g n d e) due
    ∙ ap (λ (n : ℕ). counts f g h n e) puts ∙ ap (λ (n : ℕ). counts f g h i n) ends

pub counts_same : (at other : ℕ → Classes) → ((q : ℕ) → at q ≡ other q) → counts_by at ≡ counts_by other
counts_same at other alike = five _ _ _ _ _ _ _ _ _ _
    (same (λ q. (at q).place) (λ q. (other q).place) (λ q. ap (λ (c : Classes). c.place) (alike q)))
    (same (λ q. (at q).marked) (λ q. (other q).marked) (λ q. ap (λ (c : Classes). c.marked) (alike q)))
    (same (λ q. (at q).due) (λ q. (other q).due) (λ q. ap (λ (c : Classes). c.due) (alike q)))
    (same (λ q. (at q).puts) (λ q. (other q).puts) (λ q. ap (λ (c : Classes). c.puts) (alike q)))
    (same (λ q. (at q).ends) (λ q. (other q).ends) (λ q. ap (λ (c : Classes). c.ends) (alike q)))

pub allows_all : (at : ℕ → Classes) (k : ℕ) → k < 2 ^ 32 → AllowsAll (counts_by at) (at k)
allows_all at k fits = record {
  places = allows (λ q. (at q).place) k fits;
  marked = allows (λ q. (at q).marked) k fits;
  due = allows (λ q. (at q).due) k fits;
  puts = allows (λ q. (at q).puts) k fits;
  ends = allows (λ q. (at q).ends) k fits;
}

-- where the classes of one number become others, its counts move
pub counts_moved : (at other : ℕ → Classes) (k : ℕ) → k < 2 ^ 32 → ((q : ℕ) → q ≢ k → at q ≡ other q)
    → moved (counts_by at) (at k) (other k) ≡ counts_by other
counts_moved at other k fits alike = five _ _ _ _ _ _ _ _ _ _
    (shifts (λ q. (at q).place) (λ q. (other q).place) k fits (λ q apart. ap (λ (c : Classes). c.place) (alike q apart)))
    (shifts (λ q. (at q).marked) (λ q. (other q).marked) k fits (λ q apart. ap (λ (c : Classes). c.marked) (alike q apart)))
    (shifts (λ q. (at q).due) (λ q. (other q).due) k fits (λ q apart. ap (λ (c : Classes). c.due) (alike q apart)))
    (shifts (λ q. (at q).puts) (λ q. (other q).puts) k fits (λ q apart. ap (λ (c : Classes). c.puts) (alike q apart)))
    (shifts (λ q. (at q).ends) (λ q. (other q).ends) k fits (λ q apart. ap (λ (c : Classes). c.ends) (alike q apart)))

pub counts_never : counts_by (λ q. in_none) ≡ of_none
counts_never = five _ _ _ _ _ _ _ _ _ _ never never never never never

-- where none is counted, none is in the class
pub none_is : (test : ℕ → Bool) (k : ℕ) → k < 2 ^ 32 → how_many test ≡ 0 → test k ≡ false
none_is test k fits is = by (test k) refl
  where
    by : (b : Bool) → test k ≡ b → test k ≡ false
    by false here = here
    by true here = absurd (let some = (allows test k fits).0 in let one = ap one_if here in omega (arith, some, one, is))
