-- The counts between two calls: one value may be counted for the classes that it had.
use Rattle.std.proofs.Common.{◌≡◌, ◌≢◌, ℕ, ◌<◌, ◌≤◌, ◌^◌, ◌==◌, true, false, cond, inl, inr, Bool, Option, Some, None, is_some, IsSome, Result, Ok, Err, OnOk, OnErr, refl, ap, sym, subst, ◌∙◌, arith}
use Rattle.std.specs.Ordering.{nat_cmp}
use Rattle.std.specs.FinMap.{FinMap, empty, get, insert, get-empty}
use Rattle.std.proofs.lemmas.Bool.{cases_eq, eq-eqb, eqb-false, ne_eqb, false≢true}
use Rattle.hb_map.proofs.Laws.{put_elsewhere}
use Rattle.hb_counted.specs.declared.classes.Classes.{Classes}
use Rattle.hb_counted.specs.declared.counts.Counts.{Counts}
use Rattle.hb_counted.specs.declared.starts.Starts.{Starts}
use Rattle.hb_counted.specs.declared.counted.Tally.{Tally}
use Rattle.hb_counted.specs.Classes.{in_none, of_none, how_many_below, how_many, classes_in, counts_by, counts_of, moved, AllowsAll}
use Rattle.hb_counted.specs.Kept.{seen, IsKept}
use Rattle.hb_counted.specs.Starts.{AreStarts, all_lowered}
use Rattle.hb_counted.proofs.Counting.{counts_same, counts_moved, counts_never, allows_all, none_is}
use Rattle.hb_counted.proofs.Starting.{starts_same, starts_lowered, starts_never}

module _ {T : Type 0} (classes : T → Classes) where
  abbrev plain : FinMap nat_cmp T → ℕ → Classes
  plain m n = classes_in classes (get m n)

  module _ (tally : Tally) (m : FinMap nat_cmp T) where
    seen_here : seen classes tally m tally.lent ≡ tally.was
    seen_here = ap (λ (b : Bool). cond b tally.was (plain m tally.lent)) (eq-eqb tally.lent tally.lent refl)

    seen_elsewhere : (q : ℕ) → q ≢ tally.lent → seen classes tally m q ≡ plain m q
    seen_elsewhere q apart = ap (λ (b : Bool). cond b tally.was (plain m q)) (ne_eqb q tally.lent apart)

    module _ (kept : IsKept classes tally m) where
      -- the one that was lent last is counted for what it was
      pub allows_lent : AllowsAll tally.counts tally.was
      allows_lent =
          subst (λ (c : Counts). AllowsAll c tally.was) (sym kept.counted)
          (subst (λ (was : Classes). AllowsAll (counts_by (seen classes tally m)) was) seen_here
          (allows_all (seen classes tally m) tally.lent kept.lent))

      -- and then for what it is
      pub counts_all : moved tally.counts tally.was (plain m tally.lent) ≡ counts_of classes m
      counts_all =
          ap (λ (c : Counts). moved c tally.was (plain m tally.lent)) kept.counted
          ∙ ap (λ (was : Classes). moved (counts_by (seen classes tally m)) was (plain m tally.lent)) (sym seen_here)
          ∙ counts_moved (seen classes tally m) (plain m) tally.lent kept.lent seen_elsewhere

      -- and the starts are lowered by it
      pub starts_all : AreStarts (all_lowered tally.starts (counts_of classes m) (plain m tally.lent) tally.lent) (plain m)
      starts_all =
          starts_lowered tally.starts (seen classes tally m) (plain m) tally.lent kept.starts seen_elsewhere (λ q beyond.
          by_value q (get m q) refl beyond)
        where
          by_value : (q : ℕ) (o : Option T) → get m q ≡ o → 2 ^ 32 ≤ q → plain m q ≡ in_none
          by_value q None is beyond = ap (classes_in classes) is
          by_value q (Some item) is beyond = absurd (let less = kept.narrow q (ap is_some is) in omega (arith, less, beyond))

      -- it alone may change
      pub keeps : (number : ℕ) → tally.lent ≡ number → (n : FinMap nat_cmp T) → ((q : ℕ) → q ≢ number → get n q ≡ get m q)
          → IsKept classes tally n
      keeps number is n others =
          let alike : (q : ℕ) → seen classes tally m q ≡ seen classes tally n q = λ q. by_test q (q == tally.lent) refl in
          record {
            counted = kept.counted ∙ counts_same (seen classes tally m) (seen classes tally n) alike;
            starts = starts_same tally.starts (seen classes tally m) (seen classes tally n) alike kept.starts;
            narrow = λ q some. elim (cases_eq q number) [
              | inl here ↦ subst (λ (q : ℕ). q < 2 ^ 32) (is ∙ sym here) kept.lent
              | inr apart ↦ kept.narrow q (sym (ap is_some (others q apart)) ∙ some)
            ];
            lent = kept.lent;
          }
        where
          by_test : (q : ℕ) (b : Bool) → (q == tally.lent) ≡ b
              → cond b tally.was (plain m q) ≡ cond b tally.was (plain n q)
          by_test q true here = refl
          by_test q false apart = ap (classes_in classes) (sym (others q (λ same. eqb-false q tally.lent apart (same ∙ sym is))))

  -- all are counted for what they are
  pub turns : (counts : Counts) (starts : Starts) (number : ℕ) (was : Classes) (m : FinMap nat_cmp T) → counts ≡ counts_of classes m
      → AreStarts starts (plain m) → was ≡ plain m number → number < 2 ^ 32 → ((q : ℕ) → IsSome (get m q) → q < 2 ^ 32)
      → IsKept classes (record { counts = counts; starts = starts; lent = number; was = was }) m
  turns counts starts number was m counted begun is fits narrow =
      let tally : Tally = record { counts = counts; starts = starts; lent = number; was = was } in
      let alike : (q : ℕ) → plain m q ≡ seen classes tally m q = λ q. elim (cases_eq q number) [
        | inl here ↦ ap (plain m) here ∙ sym is ∙ sym (seen_here tally m) ∙ sym (ap (seen classes tally m) here)
        | inr apart ↦ sym (seen_elsewhere tally m q apart)
      ] in
      record {
        counted = counted ∙ counts_same (plain m) (seen classes tally m) alike;
        starts = starts_same starts (plain m) (seen classes tally m) alike begun;
        narrow = narrow;
        lent = fits;
      }

  pub none_kept : (starts : Starts)
      → IsKept classes (record { counts = of_none; starts = starts; lent = 0; was = in_none }) (empty {R = nat_cmp})
  none_kept starts =
      let nothing = empty {R = nat_cmp} in
      let alike : (q : ℕ) → in_none ≡ plain nothing q = λ q. sym (ap (classes_in classes) (get-empty nat_cmp q)) in
      turns of_none starts 0 in_none nothing
      (sym counts_never ∙ counts_same (λ q. in_none) (plain nothing) alike)
      (starts_same starts (λ q. in_none) (plain nothing) alike (starts_never starts))
      (sym (ap (classes_in classes) (get-empty nat_cmp 0))) (omega arith)
      (λ q some. absurd (false≢true (sym (ap is_some (get-empty nat_cmp q)) ∙ some)))

-- what the map has after an addition that may fail
pub added_elsewhere : {X E : Type 0} (m n : FinMap nat_cmp X) (number : ℕ) (item : X) (r : Result Unit E)
    → OnOk r (n ≡ insert m number item) → OnErr r (n ≡ m) → (q : ℕ) → q ≢ number → get n q ≡ get m q
added_elsewhere m n number item (Ok x) ok err q apart = ap (λ m. get m q) ok ∙ put_elsewhere m number item q apart
added_elsewhere m n number item (Err e) ok err q apart = ap (λ m. get m q) err

-- what a count of all is: over all numbers of 32 bits; and where it is none, no number is in the class
pub all_numbers : (test : ℕ → Bool) → how_many test ≡ how_many_below test (2 ^ 32)
unfolding how_many
all_numbers test = refl

module _ {X : Type 0} (classes : X → Classes) (test : Classes → Bool) (m : FinMap nat_cmp X) where
  pub none_in : test in_none ≡ false → ((n : ℕ) → IsSome (get m n) → n < 2 ^ 32)
      → how_many (λ n. test (classes_in classes (get m n))) ≡ 0 → (s : ℕ) → test (classes_in classes (get m s)) ≡ false
  none_in nothing narrow none s = by (get m s) refl
    where
      by : (o : Option X) → get m s ≡ o → test (classes_in classes (get m s)) ≡ false
      by None is = ap (λ (o : Option X). test (classes_in classes o)) is ∙ nothing
      by (Some item) is = none_is (λ n. test (classes_in classes (get m n))) s (narrow s (ap is_some is)) none
