-- Lists in the order of their names.
use Rattle.std.proofs.Common.{◌≡◌, ℕ, Bool, true, false, cond, List, [], ◌∷◌, Some, None, is_some, refl, ap, ◌∙◌, T}
use Rattle.std.specs.Prelude.{◌&&◌, filter}
use Rattle.std.specs.Ordering.{is_lt, is_eq, eq_by_cmp, ordering_reverse}
use Rattle.std.specs.declared.cmp.Ordering.{Ordering}
use Rattle.std.specs.declared.cmp.Ordering.TheVariants.{Less, Equal, Greater}
use Rattle.std.specs.Cmp.Lexicographic.{nat_list_cmp_total}
use Rattle.std.specs.FinMap.{find, is_sorted, entries, entries_sorted}
use Rattle.std.specs.FinMap.Entries.{below_all}
use Rattle.hb_index.specs.Named.{Named, AllBehind, Rise}
use Rattle.hb_index.proofs.Entries.{by_bytes, differ, equal}
use Rattle.hb_index.proofs.Undone.{is_there}

less : (o : Ordering) → T (is_lt o) → o ≡ Less
less Less p = refl
less Equal p = absurd p
less Greater p = absurd p

left : (a b : Bool) → T (a && b) → T a
left true b p = tt
left false b p = p

right : (a b : Bool) → T (a && b) → T b
right true b p = p
right false b p = absurd p

behind_all : {X : Type 0} (k : List ℕ) (es : List (List ℕ × X)) → T (below_all by_bytes k es) → AllBehind k es
behind_all k [] p = tt
behind_all k (e ∷ es) p = (less _ (left _ _ p), behind_all k es (right _ _ p))

rise_all : {X : Type 0} (es : List (List ℕ × X)) → T (is_sorted by_bytes es) → Rise es
rise_all [] p = tt
rise_all (e ∷ es) p = (behind_all e.0 es (left _ _ p), rise_all es (right _ _ p))

-- the entries of a map rise
pub entries_rise : {X : Type 0} (m : Named X) → Rise (entries m)
entries_rise m = rise_all (entries m) (entries_sorted m)

module _ {X : Type 0} (p : List ℕ × X → Bool) where
  pub behind_filter : (k : List ℕ) (es : List (List ℕ × X)) → AllBehind k es → AllBehind k (filter p es)
  behind_filter k [] h = tt
  behind_filter k (e ∷ es) h =
      elim (p e) as (λ b. AllBehind k (cond b (e ∷ filter p es) (filter p es))) [
        | true ↦ (h.0, behind_filter k es h.1)
        | false ↦ behind_filter k es h.1
      ]

  pub rise_filter : (es : List (List ℕ × X)) → Rise es → Rise (filter p es)
  rise_filter [] h = tt
  rise_filter (e ∷ es) h =
      elim (p e) as (λ b. Rise (cond b (e ∷ filter p es) (filter p es))) [
        | true ↦ (behind_filter e.0 es h.0, rise_filter es h.1)
        | false ↦ rise_filter es h.1
      ]

pub reversed : (a b : List ℕ) → by_bytes a b ≡ Less → is_lt (by_bytes b a) ≡ false
reversed a b h = ap is_lt (nat_list_cmp_total.antisymm b a ∙ ap ordering_reverse h)

pub same : {A : Type 0} (x y : A) → Some x ≡ Some y → x ≡ y
same x y e = cc

no_value : {A P : Type 0} (x : A) → None ≡ Some x → P
no_value x e = absurd cc

-- a name that is found behind k stands behind k
pub found_behind : {A : Type 0} (k : List ℕ) (es : List (List ℕ × A)) (q : List ℕ) (v : A) → AllBehind k es → find by_bytes q es ≡ Some v
    → by_bytes k q ≡ Less
found_behind k [] q v h is = no_value v is
found_behind k (e ∷ es) q v h is =
    elim (eq_by_cmp by_bytes q e.0) as (λ b. eq_by_cmp by_bytes q e.0 ≡ b → cond b (Some e.1) (find by_bytes q es) ≡ Some v
    → by_bytes k q ≡ Less) [
      | true ↦ λ tie _. ap (by_bytes k) (differ q e.0 (equal _ tie)) ∙ h.0
      | false ↦ λ _ there. found_behind k es q v h.1 there
    ] refl is

apart : (k q : List ℕ) → by_bytes k q ≡ Less → eq_by_cmp by_bytes q k ≡ false
apart k q h = ap is_eq (nat_list_cmp_total.antisymm q k ∙ ap ordering_reverse h)

-- a name found behind the first entry is found among all
pub found_later : {A : Type 0} (e : List ℕ × A) (es : List (List ℕ × A)) (q : List ℕ) (v : A) → AllBehind e.0 es
    → find by_bytes q es ≡ Some v
    → find by_bytes q (e ∷ es) ≡ Some v
found_later e es q v h is =
    ap (λ b. cond b (Some e.1) (find by_bytes q es)) (apart e.0 q (found_behind e.0 es q v h is)) ∙ is

pub later_is_greater : {U : Type 0} (k : List ℕ) (rest : List (List ℕ × U)) (name : List ℕ) → AllBehind k rest
    → is_some (find by_bytes name rest) ≡ true → is_lt (by_bytes name k) ≡ false
later_is_greater k rest name behind is =
    let held = is_there (find by_bytes name rest) is in reversed k name (found_behind k rest name held.0 behind held.1)
