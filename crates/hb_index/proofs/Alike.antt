-- What passes of two maps is the same list where it is the same under each name.
use Rattle.std.proofs.Common.{◌≡◌, ℕ, Bool, true, false, cond, List, [], ◌∷◌, Option, Some, None, refl, ap, sym, ◌∙◌, subst, T}
use Rattle.std.specs.Prelude.{◌&&◌, filter}
use Rattle.std.specs.Ordering.{is_lt, is_eq, eq_by_cmp}
use Rattle.std.specs.declared.cmp.Ordering.TheVariants.{Less}
use Rattle.std.specs.Cmp.Lexicographic.{nat_list_cmp_total}
use Rattle.std.specs.FinMap.{find, entries, get, from_sorted, is_sorted, get-entries, entries-from_sorted, get-from_sorted, same_map}
use Rattle.std.specs.FinMap.Entries.{below_all}
use Rattle.hb_index.specs.Named.{Named, AllBehind, Rise}
use Rattle.hb_index.proofs.Entries.{by_bytes, differ, equal}
use Rattle.hb_index.proofs.Rising.{entries_rise, rise_filter}

both_hold : (a b : Bool) → T a → T b → T (a && b)
both_hold true b p q = q
both_hold false b p q = absurd p

behind_apart : (k q : List ℕ) → by_bytes k q ≡ Less → eq_by_cmp by_bytes k q ≡ false
behind_apart k q h = ap is_eq h

module _ {X : Type 0} where
  below : (k : List ℕ) (es : List (List ℕ × X)) → AllBehind k es → T (below_all by_bytes k es)
  below k [] h = tt
  below k (e ∷ es) h = both_hold _ _ (subst (λ o. T (is_lt o)) (sym h.0) tt) (below k es h.1)

  in_order : (es : List (List ℕ × X)) → Rise es → T (is_sorted by_bytes es)
  in_order [] h = tt
  in_order (e ∷ es) h = both_hold _ _ (below e.0 es h.0) (in_order es h.1)

  -- rising lists in which the same is found are the same
  pub same_list : (es fs : List (List ℕ × X)) → Rise es → Rise fs → ((q : List ℕ) → find by_bytes q es ≡ find by_bytes q fs) → es ≡ fs
  same_list es fs p q h =
      sym (entries-from_sorted by_bytes es (in_order es p))
      ∙ ap entries (same_map nat_list_cmp_total differ (from_sorted {R = by_bytes} es) (from_sorted fs) (λ k.
      get-from_sorted by_bytes es k (in_order es p) ∙ h k ∙ sym (get-from_sorted by_bytes fs k (in_order fs q))))
      ∙ entries-from_sorted by_bytes fs (in_order fs q)

  none_behind : (k : List ℕ) (es : List (List ℕ × X)) → AllBehind k es → find by_bytes k es ≡ None
  none_behind k [] h = refl
  none_behind k (e ∷ es) h = ap (λ b. cond b (Some e.1) (find by_bytes k es)) (behind_apart k e.0 h.0) ∙ none_behind k es h.1

module _ {X : Type 0} (p : List ℕ × X → Bool) where
  -- the value under a name, where it passes
  abbrev pub passed : List ℕ → Option X → Option X
  passed q None = None
  passed q (Some v) = cond (p (q, v)) (Some v) None

  pub find_filter : (es : List (List ℕ × X)) (q : List ℕ) → Rise es → find by_bytes q (filter p es) ≡ passed q (find by_bytes q es)
  find_filter [] q h = refl
  find_filter (e ∷ es) q h =
      elim (eq_by_cmp by_bytes q e.0) as (λ b. eq_by_cmp by_bytes q e.0 ≡ b
      → find by_bytes q (cond (p e) (e ∷ filter p es) (filter p es)) ≡ passed q (cond b (Some e.1) (find by_bytes q es))) [
        | true ↦ λ tie.
            let named : q ≡ e.0 = differ q e.0 (equal _ tie) in
            elim (p e) as (λ b. p e ≡ b → find by_bytes q (cond b (e ∷ filter p es) (filter p es)) ≡ passed q (Some e.1)) [
              | true ↦ λ yes. ap (λ b. cond b (Some e.1) (find by_bytes q (filter p es))) tie
                  ∙ sym (ap (λ b. cond b (Some e.1) None) (ap (λ n. p (n, e.1)) named ∙ yes))
              | false ↦ λ not. find_filter es q h.1
                  ∙ ap (passed q) (ap (λ n. find by_bytes n es) named ∙ none_behind e.0 es h.0)
                  ∙ sym (ap (λ b. cond b (Some e.1) None) (ap (λ n. p (n, e.1)) named ∙ not))
            ] refl
        | false ↦ λ other. elim (p e) as (λ b.
            find by_bytes q (cond b (e ∷ filter p es) (filter p es)) ≡ passed q (find by_bytes q es)) [
              | true ↦ ap (λ b. cond b (Some e.1) (find by_bytes q (filter p es))) other ∙ find_filter es q h.1
              | false ↦ find_filter es q h.1
            ]
      ] refl

  pub passing_alike : (m n : Named X) → ((q : List ℕ) → passed q (get m q) ≡ passed q (get n q))
      → filter p (entries m) ≡ filter p (entries n)
  passing_alike m n h =
      same_list _ _ (rise_filter p _ (entries_rise m)) (rise_filter p _ (entries_rise n)) (λ q.
      find_filter (entries m) q (entries_rise m) ∙ ap (passed q) (sym (get-entries m q)) ∙ h q
      ∙ ap (passed q) (get-entries n q) ∙ sym (find_filter (entries n) q (entries_rise n)))
