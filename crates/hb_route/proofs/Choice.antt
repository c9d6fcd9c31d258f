-- The endpoint chosen goes before all others.
use Rattle.std.proofs.Common.{◌≡◌, ℕ, ◌≤◌, true, false, List, [], ◌∷◌, refl, ap, ◌∙◌, subst, arith, slice_index_or}
use Rattle.std.proofs.lemmas.Bool.Decides.{nat_tests}
use Rattle.std.proofs.lemmas.Cmp.{on_total, then_total, nat_cmp_total}
use Rattle.std.proofs.lemmas.List.Elements.{All-from_get_or, Contains-get_or}
use Rattle.std.proofs.lemmas.List.MinMax.{ranks_by, IsFirstBest-from_best_of}
use Rattle.std.specs.Cmp.{IsStrictWeakOrder}
use Rattle.std.specs.Cmp.Lexicographic.{slice_cmp, nat_list_cmp_total}
use Rattle.std.specs.FinMap.{empty, insert, get-insert, get-empty}
use Rattle.std.specs.List.{All, Contains, best_of}
use Rattle.std.specs.Option.{unwrap_or}
use Rattle.std.specs.Ordering.{nat_cmp, ordering_then, is_lt}
use Rattle.std.specs.declared.cmp.Ordering.{Ordering}
use Rattle.hb_base.specs.declared.ip.Ip.TheVariants.{V4}
use Rattle.hb_index.proofs.Entries.{by_bytes}
use Rattle.hb_route.specs.Endpoint.{Place, goes_before, chosen}
use Rattle.hb_route.specs.Laws.{GoesFirst, ChoosesFirst, first_listed, smallest_name, no_choice}
use Rattle.hb_route.specs.Opens.{Counts, open_at}

at_most : (x y : ℕ) (o : Ordering) → is_lt (ordering_then (nat_cmp x y) o) ≡ false → y ≤ x
at_most x y o h = grind (arith, nat_tests)

then_by : (x y : ℕ) (o : Ordering) → is_lt (ordering_then (nat_cmp x y) o) ≡ false → x ≡ y → is_lt o ≡ false
then_by x y o h same = grind (arith, nat_tests)

module _ (opens : Counts) where
  ranks : IsStrictWeakOrder (goes_before opens)
  ranks =
      let by_opens = on_total (λ (p : Place). open_at opens p.name) nat_cmp_total in
      let by_name = on_total (λ (p : Place). p.name) nat_list_cmp_total in
      ranks_by (then_total by_opens by_name) (λ p. p)

  not_fewer : (q r : Place) → goes_before opens q r ≡ false → open_at opens r.name ≤ open_at opens q.name
  not_fewer q r h = at_most (open_at opens q.name) (open_at opens r.name) (slice_cmp nat_cmp q.name r.name) h

  not_smaller : (q r : Place) → goes_before opens q r ≡ false → open_at opens q.name ≡ open_at opens r.name
      → is_lt (slice_cmp nat_cmp q.name r.name) ≡ false
  not_smaller q r h same = then_by (open_at opens q.name) (open_at opens r.name) (slice_cmp nat_cmp q.name r.name) h same

  first : (p : Place) (ps : List Place) → GoesFirst opens (p ∷ ps) (best_of (goes_before opens) p ps)
  first p ps =
      let (at, best, is) = IsFirstBest-from_best_of ranks p ps in
      let r = best_of (goes_before opens) p ps in
      let none_before : All (λ q. goes_before opens q r ≡ false) (p ∷ ps) = All-from_get_or (λ q. goes_before opens q r ≡ false) (p ∷ ps) p
      (λ i within. subst (λ b. goes_before opens (slice_index_or (p ∷ ps) i p) b ≡ false) is (best.1 i p within)) in
      record {
        among = subst (Contains (p ∷ ps)) is (Contains-get_or (p ∷ ps) at p best.0);
        fewest = λ k d within. not_fewer (slice_index_or (p ∷ ps) k d) r (none_before k d within);
        smallest = λ k d within. not_smaller (slice_index_or (p ∷ ps) k d) r (none_before k d within);
      }

pub chooses_first : ChoosesFirst chosen
chooses_first opens [] = refl
chooses_first opens (p ∷ ps) = first opens p ps

-- two endpoints, of which the first has one connection open
place : ℕ → Place
place name = record { name = name ∷ []; target = record { ip = V4 name; port = 80 }; hbone = true }

busy : Counts
busy = insert empty (1 ∷ []) 1

busy_one : open_at busy (1 ∷ []) ≡ 1
unfolding busy
busy_one = ap (λ o. unwrap_or o 0) (get-insert nat_list_cmp_total empty (1 ∷ []) 1 (1 ∷ []))

busy_two : open_at busy (2 ∷ []) ≡ 0
unfolding busy
busy_two = ap (λ o. unwrap_or o 0) (get-insert nat_list_cmp_total empty (1 ∷ []) 1 (2 ∷ []) ∙ get-empty by_bytes (2 ∷ []))

not_the_first : GoesFirst busy (place 1 ∷ place 2 ∷ []) (place 1) → ⊥
unfolding place
not_the_first wrong =
    let more : open_at busy (1 ∷ []) ≤ open_at busy (2 ∷ []) = wrong.fewest 1 (place 1) (omega arith) in
    absurd (omega (arith, more, busy_one, busy_two))

pub first_listed_refused : ChoosesFirst first_listed → ⊥
first_listed_refused wrong = not_the_first (wrong busy (place 1 ∷ place 2 ∷ []))

pub smallest_name_refused : ChoosesFirst smallest_name → ⊥
unfolding place
smallest_name_refused wrong = not_the_first (wrong busy (place 1 ∷ place 2 ∷ []))

pub no_choice_refused : ChoosesFirst no_choice → ⊥
no_choice_refused wrong = let e = wrong busy (place 1 ∷ []) in absurd cc
