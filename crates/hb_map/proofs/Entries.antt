-- The map that a list of entries makes, against a search of the list.
use Rattle.std.proofs.Common.{◌≡◌, ℕ, cond, List, [], ◌∷◌, Some, refl, ap, sym, ◌∙◌}
use Rattle.std.specs.Map.{lookup}
use Rattle.std.specs.BTreeMap.{is_at}
use Rattle.std.specs.Ordering.{nat_cmp}
use Rattle.std.specs.Cmp.{nat_cmp_total, eq_by_cmp_equiv}
use Rattle.std.specs.FinMap.{from_entries, find, get, insert, get-from_entries, get-insert, same_map, nat_cmp-IsAntisymmetric}

module _ {T : Type 0} where
  find_is : (es : List (ℕ × T)) (key : ℕ) → find nat_cmp key es ≡ lookup (is_at (nat_cmp key)) es
  find_is [] key = refl
  find_is (e ∷ es) key = ap (cond (is_at (nat_cmp key) e.0) (Some e.1)) (find_is es key)

  -- the map has under a key what a search of the entries finds
  pub get_made : (es : List (ℕ × T)) (key : ℕ) → get (from_entries {R = nat_cmp} es) key ≡ lookup (is_at (nat_cmp key)) es
  get_made es key = get-from_entries nat_cmp_total es key ∙ find_is es key

  -- entries that differ by a value under one key make maps that differ by it
  pub made_with : (es fs : List (ℕ × T)) (key : ℕ) (v : T)
      → ((q : ℕ) → lookup (is_at (nat_cmp q)) fs ≡ cond (is_at (nat_cmp key) q) (Some v) (lookup (is_at (nat_cmp q)) es))
      → from_entries {R = nat_cmp} fs ≡ insert (from_entries es) key v
  made_with es fs key v h = same_map nat_cmp_total nat_cmp-IsAntisymmetric _ _ (λ q.
      get_made fs q ∙ h q
      ∙ ap (λ b. cond b (Some v) (lookup (is_at (nat_cmp q)) es)) ((eq_by_cmp_equiv nat_cmp_total).symm key q)
      ∙ sym (get-insert nat_cmp_total (from_entries es) key v q ∙ ap (cond (is_at (nat_cmp q) key) (Some v)) (get_made es q)))
