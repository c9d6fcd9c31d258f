-- How the starts of the classes move with one value.
use Rattle.std.proofs.Common.{◌≡◌, ◌≢◌, ℕ, ◌<◌, ◌≤◌, ◌^◌, ◌-◌, ◌==◌, cond, inl, inr, Bool, true, false, refl, ap, sym, ◌∙◌, eqb-true, Option, arith}
use Rattle.std.specs.Prelude.{min}
use Rattle.std.specs.Ordering.{nat_cmp}
use Rattle.std.specs.FinMap.{empty, get, insert, get-empty}
use Rattle.std.proofs.lemmas.Bool.{cases_eq, cases_lt, false≢true}
use Rattle.hb_map.proofs.Laws.{put_elsewhere}
use Rattle.hb_counted.specs.declared.classes.Classes.{Classes}
use Rattle.hb_counted.specs.declared.starts.Starts.{Starts}
use Rattle.hb_counted.specs.Classes.{in_none, how_many, classes_in, counts_by}
use Rattle.hb_counted.specs.Laws.{its_own, StartsThere, StartsBehind}
use Rattle.hb_counted.specs.Starts.{IsStart, AreStarts, lowered, all_lowered}
use Rattle.hb_counted.proofs.Counting.{none_is}

-- ONE TEST

-- where one number alone may have changed
module _ (test other : ℕ → Bool) (k start : ℕ) (is_start : IsStart start test) (alike : (q : ℕ) → q ≢ k → test q ≡ other q)
    (narrow : (q : ℕ) → 2 ^ 32 ≤ q → other q ≡ false) where
  starts_elsewhere : (n : ℕ) → n ≢ k → other n ≡ true → start ≤ n
  starts_elsewhere n apart is = is_start n (alike n apart ∙ is)

  fits : (n : ℕ) → other n ≡ true → n < 2 ^ 32
  fits n is = elim (cases_lt n (2 ^ 32)) [
    | inl less ↦ less
    | inr beyond ↦ absurd (false≢true (sym (narrow n beyond) ∙ is))
  ]

  start_lowered : IsStart (lowered start (how_many other) (other k) k) other
  start_lowered n is = by (how_many other == 0) refl (other k) refl
    where
      by : (none : Bool) → (how_many other == 0) ≡ none → (here : Bool) → other k ≡ here
          → cond none (2 ^ 32 - 1) (cond here (min start k) start) ≤ n
      by true none here at = absurd (false≢true (sym (none_is other n (fits n is) (eqb-true (how_many other) 0 none)) ∙ is))
      by false some true at = elim (cases_eq n k) [
        | inl same ↦ omega (arith, same)
        | inr apart ↦ let low = starts_elsewhere n apart is in omega (arith, low)
      ]
      by false some false at = elim (cases_eq n k) [
        | inl same ↦ absurd (false≢true (sym at ∙ ap other (sym same) ∙ is))
        | inr apart ↦ starts_elsewhere n apart is
      ]

-- below its start no number meets a test
pub none_before : (test : ℕ → Bool) (start : ℕ) → IsStart start test → (n : ℕ) → n < start → test n ≡ false
none_before test start is n less = by (test n) refl
  where
    by : (b : Bool) → test n ≡ b → test n ≡ false
    by false here = here
    by true here = absurd (let low = is n here in omega (arith, less, low))

-- ALL CLASSES

pub starts_same : (starts : Starts) (at other : ℕ → Classes) → ((q : ℕ) → at q ≡ other q) → AreStarts starts at → AreStarts starts other
starts_same starts at other alike are = record {
  due = λ n is. are.due n (ap (λ (c : Classes). c.due) (alike n) ∙ is);
  puts = λ n is. are.puts n (ap (λ (c : Classes). c.puts) (alike n) ∙ is);
}

-- where the classes of one number become others
pub starts_lowered : (starts : Starts) (at other : ℕ → Classes) (k : ℕ) → AreStarts starts at → ((q : ℕ) → q ≢ k → at q ≡ other q)
    → ((q : ℕ) → 2 ^ 32 ≤ q → other q ≡ in_none) → AreStarts (all_lowered starts (counts_by other) (other k) k) other
starts_lowered starts at other k are alike narrow = record {
  due = start_lowered (λ q. (at q).due) (λ q. (other q).due) k starts.due are.due
      (λ q apart. ap (λ (c : Classes). c.due) (alike q apart)) (λ q beyond. ap (λ (c : Classes). c.due) (narrow q beyond));
  puts = start_lowered (λ q. (at q).puts) (λ q. (other q).puts) k starts.puts are.puts
      (λ q apart. ap (λ (c : Classes). c.puts) (alike q apart)) (λ q beyond. ap (λ (c : Classes). c.puts) (narrow q beyond));
}

pub starts_never : (starts : Starts) → AreStarts starts (λ q. in_none)
starts_never starts = record {
  due = λ n is. absurd (false≢true is);
  puts = λ n is. absurd (false≢true is);
}

-- EXAMPLES

pub starts_there : StartsThere
starts_there n item = record {
  due = λ q is. there q (λ (c : Classes). c.due) refl is;
  puts = λ q is. there q (λ (c : Classes). c.puts) refl is;
}
  where
    at : ℕ → Classes
    at q = classes_in its_own (get (insert (empty {R = nat_cmp}) n item) q)

    there : (q : ℕ) (test : Classes → Bool) → test in_none ≡ false → test (at q) ≡ true → n ≤ q
    there q test nothing is = elim (cases_eq q n) [
      | inl same ↦ omega (arith, same)
      | inr apart ↦ absurd (false≢true (sym nothing
          ∙ sym (ap (λ (o : Option Classes). test (classes_in its_own o)) (put_elsewhere empty n item q apart ∙ get-empty nat_cmp q)) ∙ is))
    ]

pub not_behind : StartsBehind
not_behind m n item starts there is less are =
    let low = are.due n (ap (λ (o : Option Classes). (classes_in its_own o).due) there ∙ is) in omega (arith, less, low)
