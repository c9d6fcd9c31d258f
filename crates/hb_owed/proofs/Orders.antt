-- In which order all owed frames stand.
use Rattle.std.proofs.Common.{◌≡◌, ◌≢◌, ℕ, zero, suc, ◌+◌, ◌≤◌, cond, List, [], ◌∷◌, ◌++◌, map, refl, ap, sym, ◌∙◌, subst, arith}
use Rattle.std.specs.Prelude.{◌==◌}
use Rattle.std.specs.List.{filter, AllByRecursion}
use Rattle.std.specs.FinMap.{entries, get-entries}
use Rattle.std.proofs.lemmas.Bool.{eq-eqb, ne_eqb}
use Rattle.std.proofs.lemmas.List.{append-nil}
use Rattle.hb_owed.specs.declared.due.Due.{Due}
use Rattle.hb_owed.specs.Debts.{Debts, dues, dues_on}
use Rattle.hb_owed.specs.Laws.{AreRising, LowestFirst, EachStream}
use Rattle.hb_owed.proofs.Walks.{on, dues_from, all_from, dues_step, nothing_from, sum_of, find_beyond}

abbrev AllFrom : ℕ → List (ℕ × Due) → Type 0
AllFrom s xs = AllByRecursion (λ y. s ≤ y.0) xs

lower : (s : ℕ) (xs : List (ℕ × Due)) → AllFrom (suc s) xs → AllFrom s xs
lower s [] h = tt
lower s (x ∷ xs) h = (omega (arith, h.0), lower s xs h.1)

on_rises : (s : ℕ) (xs : List Due) (ys : List (ℕ × Due)) → AllFrom s ys → AreRising ys
    → AllFrom s (on s xs ++ ys) × AreRising (on s xs ++ ys)
on_rises s [] ys above rising = (above, rising)
on_rises s (x ∷ xs) ys above rising = let later = on_rises s xs ys above rising in ((omega arith, later.0), later)

rises_from : (m : Debts) (n s : ℕ) → suc (sum_of (entries m)) ≤ s + n → AllFrom s (dues_from s m) × AreRising (dues_from s m)
rises_from m zero s beyond =
    let none = nothing_from m s (λ q g. get-entries m q ∙ find_beyond (entries m) q (omega (arith, beyond, g))) in
    subst (λ xs. AllFrom s xs × AreRising xs) (sym none) (tt, tt)
rises_from m (suc n) s beyond =
    let later = rises_from m n (suc s) (omega (arith, beyond)) in
    subst (λ xs. AllFrom s xs × AreRising xs) (sym (dues_step m s))
    (on_rises s (dues_on m s) (dues_from (suc s) m) (lower s (dues_from (suc s) m) later.0) later.1)

all_above : (m : Debts) (s : ℕ) → AllFrom s (dues_from s m)
all_above m s = (rises_from m (suc (sum_of (entries m))) s (omega arith)).0

pub lowest_first : LowestFirst
lowest_first m = subst AreRising (sym (all_from m)) (rises_from m (suc (sum_of (entries m))) 0 (omega arith)).1

-- what is of one stream

abbrev of_stream : ℕ → List (ℕ × Due) → List Due
of_stream s xs = map (λ x. x.1) (filter (λ x. x.0 == s) xs)

of_same : (s : ℕ) (xs : List Due) (ys : List (ℕ × Due)) → of_stream s (on s xs ++ ys) ≡ xs ++ of_stream s ys
of_same s [] ys = refl
of_same s (x ∷ xs) ys =
    ap (λ b. map (λ z. z.1) (cond b ((s, x) ∷ filter (λ z. z.0 == s) (on s xs ++ ys)) (filter (λ z. z.0 == s) (on s xs ++ ys))))
    (eq-eqb s s refl)
    ∙ ap (λ zs. x ∷ zs) (of_same s xs ys)

of_other : (s k : ℕ) (xs : List Due) (ys : List (ℕ × Due)) → k ≢ s → of_stream s (on k xs ++ ys) ≡ of_stream s ys
of_other s k [] ys apart = refl
of_other s k (x ∷ xs) ys apart =
    ap (λ b. map (λ z. z.1) (cond b ((k, x) ∷ filter (λ z. z.0 == s) (on k xs ++ ys)) (filter (λ z. z.0 == s) (on k xs ++ ys))))
    (ne_eqb k s apart)
    ∙ of_other s k xs ys apart

of_higher : (s : ℕ) (xs : List (ℕ × Due)) → AllFrom (suc s) xs → of_stream s xs ≡ []
of_higher s [] above = refl
of_higher s (x ∷ xs) above =
    let apart : x.0 ≢ s = omega (arith, above.0) in
    ap (λ b. map (λ z. z.1) (cond b (x ∷ filter (λ z. z.0 == s) xs) (filter (λ z. z.0 == s) xs))) (ne_eqb x.0 s apart)
    ∙ of_higher s xs above.1

of_all_from : (m : Debts) (s k : ℕ) → k ≤ s → of_stream s (dues m) ≡ of_stream s (dues_from k m)
of_all_from m s zero h = ap (of_stream s) (all_from m)
of_all_from m s (suc k) h =
    of_all_from m s k (omega (arith, h)) ∙ ap (of_stream s) (dues_step m k)
    ∙ of_other s k (dues_on m k) (dues_from (suc k) m) (omega (arith, h))

pub each_stream : EachStream
each_stream m s =
    of_all_from m s s (omega arith) ∙ ap (of_stream s) (dues_step m s) ∙ of_same s (dues_on m s) (dues_from (suc s) m)
    ∙ ap (λ xs. dues_on m s ++ xs) (of_higher s (dues_from (suc s) m) (all_above m (suc s)))
    ∙ append-nil (dues_on m s)
