-- Some entry of a map passes exactly where some value under its name does.
use Rattle.std.proofs.Common.{◌≡◌, ℕ, Bool, true, false, cond, List, [], ◌∷◌, Some, refl, ap, sym, ◌∙◌}
use Rattle.std.specs.Prelude.{◌||◌}
use Rattle.std.specs.List.{list_any}
use Rattle.std.specs.Ordering.{eq_by_cmp, is_eq}
use Rattle.std.specs.Cmp.{tied_itself}
use Rattle.std.specs.Cmp.Lexicographic.{nat_list_cmp_total}
use Rattle.std.specs.FinMap.{find, entries, get, get-entries}
use Rattle.hb_index.specs.Named.{Named, Rise}
use Rattle.hb_index.proofs.Entries.{by_bytes, differ, equal}
use Rattle.hb_index.proofs.Rising.{entries_rise, same, found_later}
use Rattle.hb_index.proofs.Undone.{or_left, or_right}

module _ {X : Type 0} (p : List ℕ × X → Bool) where
  any_found : (es : List (List ℕ × X)) (k : List ℕ) (v : X) → find by_bytes k es ≡ Some v → p (k, v) ≡ true → list_any p es ≡ true
  any_found [] k v is passes = absurd cc
  any_found (e ∷ es) k v is passes =
      elim (eq_by_cmp by_bytes k e.0) as (λ b. eq_by_cmp by_bytes k e.0 ≡ b → cond b (Some e.1) (find by_bytes k es) ≡ Some v
      → (p e || list_any p es) ≡ true) [
        | true ↦ λ tie there. or_left (p e) _ (ap (λ q. p (q, e.1)) (sym (differ k e.0 (equal _ tie)))
            ∙ ap (λ x. p (k, x)) (same e.1 v there) ∙ passes)
        | false ↦ λ _ there. or_right (p e) _ (any_found es k v there passes)
      ] refl is

  found_any : (es : List (List ℕ × X)) → Rise es → list_any p es ≡ true
      → (k : List ℕ) × (v : X) × (find by_bytes k es ≡ Some v) × (p (k, v) ≡ true)
  found_any [] h any = absurd cc
  found_any (e ∷ es) h any =
      elim (p e) as (λ b. p e ≡ b → (b || list_any p es) ≡ true
      → (k : List ℕ) × (v : X) × (find by_bytes k (e ∷ es) ≡ Some v) × (p (k, v) ≡ true)) [
        | true ↦ λ passes _. (
          e.0,
          e.1,
          ap (λ b. cond b (Some e.1) (find by_bytes e.0 es)) (ap is_eq (tied_itself nat_list_cmp_total e.0)),
          passes,
        )
        | false ↦ λ _ there.
            let found = found_any es h.1 there in (found.0, found.1, found_later e es found.0 found.1 h.0 found.2, found.3)
      ] refl any

  -- some entry of a map passes exactly where some value under its name does
  pub any_held : (m : Named X) (k : List ℕ) (v : X) → get m k ≡ Some v → p (k, v) ≡ true → list_any p (entries m) ≡ true
  any_held m k v is passes = any_found (entries m) k v (sym (get-entries m k) ∙ is) passes

  pub held_any : (m : Named X) → list_any p (entries m) ≡ true → (k : List ℕ) × (v : X) × (get m k ≡ Some v) × (p (k, v) ≡ true)
  held_any m any = let found = found_any (entries m) (entries_rise m) any in (found.0, found.1, get-entries m found.0 ∙ found.2, found.3)
