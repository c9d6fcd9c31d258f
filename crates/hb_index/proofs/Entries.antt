-- The map that a list of entries makes, against the list as `BTreeMap` keeps it.
use Rattle.std.proofs.Common.{◌≡◌, ℕ, true, false, cond, List, [], ◌∷◌, length, Some, None, refl, ap, sym, ◌∙◌, arith}
use Rattle.std.specs.List.{AllByRecursion}
use Rattle.std.specs.List.Sorted.{IsStrictlySortedBy}
use Rattle.std.specs.Map.{lookup, keys_of}
use Rattle.std.specs.BTreeMap.{is_at}
use Rattle.std.specs.Ordering.{nat_cmp, is_eq, eq_by_cmp}
use Rattle.std.specs.declared.cmp.Ordering.{Ordering}
use Rattle.std.specs.declared.cmp.Ordering.TheVariants.{Less, Equal, Greater}
use Rattle.std.specs.Cmp.{IsTotalOrder, eq_by_cmp_equiv}
use Rattle.std.specs.Cmp.Lexicographic.{slice_cmp, nat_list_cmp_total}
use Rattle.std.specs.FinMap.{FinMap, from_entries, find, put, empty, entries, get, insert, remove, len, len-empty, len-entries, get-from_entries, get-insert, get-remove, entries-insert, same_map, nat_cmp-IsAntisymmetric, slice_cmp-IsAntisymmetric, IsAntisymmetric}
use Rattle.std.proofs.lemmas.Map.Keys.{sorted_head, sorted_tail}

abbrev pub by_bytes : List ℕ → List ℕ → Ordering
by_bytes = slice_cmp nat_cmp

pub differ : IsAntisymmetric by_bytes
differ = slice_cmp-IsAntisymmetric nat_cmp-IsAntisymmetric

no_items : {A : Type 0} (es : List A) → length es ≡ 0 → es ≡ []
no_items [] e = refl
no_items (x ∷ es) e = absurd (omega arith)

pub equal : (o : Ordering) → is_eq o ≡ true → o ≡ Equal
equal Less h = absurd cc
equal Equal h = refl
equal Greater h = absurd cc

-- under keys of any total order
module _ {K T : Type 0} {R : K → K → Ordering} (total : IsTotalOrder R) (antisymmetric : IsAntisymmetric R) where
  find_is : (es : List (K × T)) (key : K) → find R key es ≡ lookup (is_at (R key)) es
  find_is [] key = refl
  find_is (e ∷ es) key = ap (cond (is_at (R key) e.0) (Some e.1)) (find_is es key)

  -- the map has under a key what a search of the entries finds
  pub get_made_by : (es : List (K × T)) (key : K) → get (from_entries {R = R} es) key ≡ lookup (is_at (R key)) es
  get_made_by es key = get-from_entries total es key ∙ find_is es key

  -- entries that differ by a value under one key make maps that differ by it
  pub made_with_by : (es fs : List (K × T)) (key : K) (v : T)
      → ((q : K) → lookup (is_at (R q)) fs ≡ cond (is_at (R key) q) (Some v) (lookup (is_at (R q)) es))
      → from_entries {R = R} fs ≡ insert (from_entries es) key v
  made_with_by es fs key v h = same_map total antisymmetric _ _ (λ q.
      get_made_by fs q ∙ h q
      ∙ ap (λ b. cond b (Some v) (lookup (is_at (R q)) es)) ((eq_by_cmp_equiv total).symm key q)
      ∙ sym (get-insert total (from_entries es) key v q ∙ ap (cond (is_at (R q) key) (Some v)) (get_made_by es q)))

  -- entries of which one lacks the value under one key make maps of which one lacks it
  pub made_without_by : (es fs : List (K × T)) (key : K)
      → ((q : K) → lookup (is_at (R q)) fs ≡ cond (is_at (R key) q) None (lookup (is_at (R q)) es))
      → from_entries {R = R} fs ≡ remove (from_entries es) key
  made_without_by es fs key h = same_map total antisymmetric _ _ (λ q.
      get_made_by fs q ∙ h q
      ∙ ap (λ b. cond b None (lookup (is_at (R q)) es)) ((eq_by_cmp_equiv total).symm key q)
      ∙ sym (get-remove total (from_entries es) key q ∙ ap (cond (is_at (R q) key) None) (get_made_by es q)))

  same_under : (m : FinMap R T) (key q : K) → eq_by_cmp R q key ≡ true → get m q ≡ get m key
  same_under m key q tie = ap (get m) (antisymmetric q key (equal _ tie))

  pub put_again : (m : FinMap R T) (key : K) (v : T) → get m key ≡ Some v → insert m key v ≡ m
  put_again m key v is = same_map total antisymmetric _ _ (λ q.
      get-insert total m key v q ∙ elim (eq_by_cmp R q key) as (λ b. eq_by_cmp R q key ≡ b → cond b (Some v) (get m q) ≡ get m q) [
        | true ↦ λ tie. sym (same_under m key q tie ∙ is)
        | false ↦ λ _. refl
      ] refl)

  pub put_and_gone : (m : FinMap R T) (key : K) (v : T) → remove (insert m key v) key ≡ remove m key
  put_and_gone m key v = same_map total antisymmetric _ _ (λ q.
      get-remove total (insert m key v) key q
      ∙ ap (cond (eq_by_cmp R q key) None) (get-insert total m key v q)
      ∙ elim (eq_by_cmp R q key) as (λ b. cond b None (cond b (Some v) (get m q)) ≡ cond b None (get m q)) [
        | true ↦ refl
        | false ↦ refl
      ] ∙ sym (get-remove total m key q))

  pub gone_already : (m : FinMap R T) (key : K) → get m key ≡ None → remove m key ≡ m
  gone_already m key is = same_map total antisymmetric _ _ (λ q.
      get-remove total m key q ∙ elim (eq_by_cmp R q key) as (λ b. eq_by_cmp R q key ≡ b → cond b None (get m q) ≡ get m q) [
        | true ↦ λ tie. sym (same_under m key q tie ∙ is)
        | false ↦ λ _. refl
      ] refl)

-- under names
module _ {T : Type 0} where
  pub get_made : (es : List (List ℕ × T)) (key : List ℕ) → get (from_entries {R = by_bytes} es) key ≡ lookup (is_at (by_bytes key)) es
  get_made = get_made_by nat_list_cmp_total differ

  pub made_with : (es fs : List (List ℕ × T)) (key : List ℕ) (v : T)
      → ((q : List ℕ) → lookup (is_at (by_bytes q)) fs ≡ cond (is_at (by_bytes key) q) (Some v) (lookup (is_at (by_bytes q)) es))
      → from_entries {R = by_bytes} fs ≡ insert (from_entries es) key v
  made_with = made_with_by nat_list_cmp_total differ

  pub made_without : (es fs : List (List ℕ × T)) (key : List ℕ)
      → ((q : List ℕ) → lookup (is_at (by_bytes q)) fs ≡ cond (is_at (by_bytes key) q) None (lookup (is_at (by_bytes q)) es))
      → from_entries {R = by_bytes} fs ≡ remove (from_entries es) key
  made_without = made_without_by nat_list_cmp_total differ

  first_put : (k : List ℕ) (v : T) (es : List (List ℕ × T)) → AllByRecursion (λ y. by_bytes k y ≡ Less) (keys_of es)
      → put by_bytes k v es ≡ (k, v) ∷ es
  first_put k v [] h = refl
  first_put k v (e ∷ es) h = rw h.0 refl

  -- entries in order are those of the map that they make
  pub entries_made : (es : List (List ℕ × T)) → IsStrictlySortedBy by_bytes (keys_of es) → entries (from_entries {R = by_bytes} es) ≡ es
  entries_made [] s = no_items (entries (empty {X = T} {R = by_bytes})) (sym (len-entries empty) ∙ len-empty by_bytes T)
  entries_made (e ∷ es) s =
      entries-insert nat_list_cmp_total (from_entries es) e.0 e.1
      ∙ ap (put by_bytes e.0 e.1) (entries_made es (sorted_tail by_bytes e.0 (keys_of es) s))
      ∙ first_put e.0 e.1 es (sorted_head by_bytes e.0 (keys_of es) s)

  pub len_made : (es : List (List ℕ × T)) → IsStrictlySortedBy by_bytes (keys_of es) → len (from_entries {R = by_bytes} es) ≡ length es
  len_made es s = len-entries (from_entries {R = by_bytes} es) ∙ ap length (entries_made es s)
