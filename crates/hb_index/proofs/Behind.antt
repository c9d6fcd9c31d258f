-- The names behind another one, in a map.
use Rattle.std.proofs.Common.{◌≡◌, ◌<◌, ◌≤◌, ℕ, Bool, true, false, cond, List, [], ◌∷◌, length, Option, Some, None, is_some, refl, ap, sym, ◌∙◌, subst, arith}
use Rattle.std.specs.Prelude.{◌&&◌, filter}
use Rattle.std.specs.Ordering.{is_lt, is_eq, eq_by_cmp, ordering_reverse}
use Rattle.std.specs.declared.cmp.Ordering.{Ordering}
use Rattle.std.specs.declared.cmp.Ordering.TheVariants.{Less, Equal, Greater}
use Rattle.std.specs.Cmp.{tied_itself}
use Rattle.std.specs.Cmp.Lexicographic.{nat_list_cmp_total}
use Rattle.std.specs.declared.ops.Bound.TheVariants.{Unbounded}
use Rattle.std.specs.BTreeMap.Range.{range_contains, entries_between}
use Rattle.std.specs.FinMap.{find, entries, get, contains_key, get-entries}
use Rattle.hb_index.specs.Named.{Named, AllBehind, Rise, is_behind, start_behind, IsFirstBehind}
use Rattle.hb_index.proofs.Alike.{passed, find_filter, same_list}
use Rattle.hb_index.proofs.Entries.{by_bytes, differ, equal}
use Rattle.hb_index.proofs.Rising.{entries_rise, rise_filter, behind_filter, same, later_is_greater}
use Rattle.hb_index.proofs.Undone.{is_there, never}

passed_is : {X : Type 0} (p : List ℕ × X → Bool) (q : List ℕ) (o : Option X) (v : X) → passed p q o ≡ Some v
    → (o ≡ Some v) × (p (q, v) ≡ true)
passed_is p q None v is = absurd cc
passed_is p q (Some x) v is =
    elim (p (q, x)) as (λ b. p (q, x) ≡ b → cond b (Some x) None ≡ Some v → (Some x ≡ Some v) × (p (q, v) ≡ true)) [
      | true ↦ λ yes there. (there, ap (λ y. p (q, y)) (sym (same x v there)) ∙ yes)
      | false ↦ λ _ none. absurd cc
    ] refl is

module _ {X : Type 0} (m : Named X) (other : Option (List ℕ)) where
  abbrev pub behind : List (List ℕ × X)
  behind = filter (λ e. is_behind other e.0) (entries m)

  pub behind_rise : Rise behind
  behind_rise = rise_filter (λ e. is_behind other e.0) (entries m) (entries_rise m)

  pub find_behind : (name : List ℕ) → find by_bytes name behind ≡ passed (λ e. is_behind other e.0) name (get m name)
  find_behind name =
      find_filter (λ e. is_behind other e.0) (entries m) name (entries_rise m)
      ∙ ap (passed (λ e. is_behind other e.0) name) (sym (get-entries m name))

  found : (name : List ℕ) → contains_key m name ≡ true → is_behind other name ≡ true → is_some (find by_bytes name behind) ≡ true
  found name has after =
      let value = is_there (get m name) has in
      ap is_some (find_behind name ∙ ap (passed (λ e. is_behind other e.0) name) value.1
      ∙ ap (λ b. cond b (Some value.0) None) after)

  pub none_behind_it : behind ≡ [] → IsFirstBehind (contains_key m) other None
  none_behind_it none = λ name has.
      elim (is_behind other name) as (λ b. is_behind other name ≡ b → b ≡ false) [
        | true ↦ λ after. sym (found name has after) ∙ ap (λ es. is_some (find by_bytes name es)) none
        | false ↦ λ _. refl
      ] refl

  pub first_behind_it : (e : List ℕ × X) (rest : List (List ℕ × X)) → behind ≡ e ∷ rest → IsFirstBehind (contains_key m) other (Some e.0)
  first_behind_it e rest is =
      let rises : Rise (e ∷ rest) = subst Rise is behind_rise in
      let own : find by_bytes e.0 (e ∷ rest) ≡ Some e.1 =
      ap (λ o. cond (is_eq o) (Some e.1) (find by_bytes e.0 rest)) (tied_itself nat_list_cmp_total e.0) in
      let stands = passed_is (λ e. is_behind other e.0) e.0 (get m e.0) e.1
      (sym (find_behind e.0) ∙ ap (find by_bytes e.0) is ∙ own) in (
        ap is_some stands.0,
        stands.1,
        λ name has after. elim (eq_by_cmp by_bytes name e.0) as (λ b. eq_by_cmp by_bytes name e.0 ≡ b
            → is_some (cond b (Some e.1) (find by_bytes name rest)) ≡ true → is_lt (by_bytes name e.0) ≡ false) [
              | true ↦ λ tied _. ap is_lt (equal _ tied)
              | false ↦ λ _ there. later_is_greater e.0 rest name rises.0 there
            ] refl (ap (λ es. is_some (find by_bytes name es)) (sym is) ∙ found name has after),
      )

-- a span of entries that starts behind a name
in_span : (other : Option (List ℕ)) (q : List ℕ) → range_contains by_bytes (start_behind other) Unbounded q ≡ is_behind other q
in_span None q = refl
in_span (Some k) q = elim (is_lt (by_bytes k q)) as (λ b. (b && true) ≡ b) [ true ↦ refl | false ↦ refl ]

pub span_behind : {X : Type 0} (m : Named X) (other : Option (List ℕ)) (es : List (List ℕ × X)) → es ≡ entries m
    → entries_between by_bytes (start_behind other) Unbounded es ≡ behind m other
span_behind m other es is =
    ap (entries_between by_bytes (start_behind other) Unbounded) is ∙ (λ i. filter (λ e. in_span other e.0 i) (entries m))

module _ {X : Type 0} (f g : List ℕ × X → Bool) (sub : (e : List ℕ × X) → f e ≡ true → g e ≡ true) where
  fewer : (es : List (List ℕ × X)) → length (filter f es) ≤ length (filter g es)
  fewer [] = omega arith
  fewer (e ∷ es) =
      let rest = fewer es in
      elim (f e) as (λ b. f e ≡ b → length (cond b (e ∷ filter f es) (filter f es)) ≤ length (cond (g e) (e ∷ filter g es) (filter g es))) [
        | true ↦ λ yes. subst (λ c. length (e ∷ filter f es) ≤ length (cond c (e ∷ filter g es) (filter g es))) (sym (sub e yes))
            (omega arith)
        | false ↦ λ _. elim (g e) as (λ c. length (filter f es) ≤ length (cond c (e ∷ filter g es) (filter g es))) [
          | true ↦ omega arith
          | false ↦ rest
        ]
      ] refl

  fewer_yet : (es : List (List ℕ × X)) (n : List ℕ) (v : X) → find by_bytes n es ≡ Some v → f (n, v) ≡ false → g (n, v) ≡ true
      → length (filter f es) < length (filter g es)
  fewer_yet [] n v is out inside = absurd cc
  fewer_yet (e ∷ es) n v is out inside =
      let rest = fewer es in
      elim (eq_by_cmp by_bytes n e.0) as (λ b. eq_by_cmp by_bytes n e.0 ≡ b → cond b (Some e.1) (find by_bytes n es) ≡ Some v
      → length (cond (f e) (e ∷ filter f es) (filter f es)) < length (cond (g e) (e ∷ filter g es) (filter g es))) [
        | true ↦ λ tie there.
            let it : (n, v) ≡ e = ap (λ q. (q, v)) (differ n e.0 (equal _ tie)) ∙ ap (λ x. (e.0, x)) (sym (same e.1 v there)) in
            subst (λ c. length (cond c (e ∷ filter f es) (filter f es)) < length (cond (g e) (e ∷ filter g es) (filter g es)))
            (sym out ∙ ap f it)
            (subst (λ c. length (filter f es) < length (cond c (e ∷ filter g es) (filter g es))) (sym inside ∙ ap g it) (omega arith))
        | false ↦ λ _ there.
            let less = fewer_yet es n v there out inside in
            elim (f e) as (λ b. f e ≡ b
            → length (cond b (e ∷ filter f es) (filter f es)) < length (cond (g e) (e ∷ filter g es) (filter g es))) [
              | true ↦ λ too. subst (λ c. length (e ∷ filter f es) < length (cond c (e ∷ filter g es) (filter g es))) (sym (sub e too))
                  (omega arith)
              | false ↦ λ _. elim (g e) as (λ c. length (filter f es) < length (cond c (e ∷ filter g es) (filter g es))) [
                | true ↦ omega arith
                | false ↦ less
              ]
            ] refl
      ] refl is

is_less : (o : Ordering) → is_lt o ≡ true → o ≡ Less
is_less Less h = refl
is_less Equal h = absurd cc
is_less Greater h = absurd cc

-- a name behind one that is behind it
later_behind : (other : Option (List ℕ)) (n q : List ℕ) → is_behind other n ≡ true → by_bytes n q ≡ Less → is_behind other q ≡ true
later_behind None n q h less = refl
later_behind (Some k) n q h less = ap is_lt (nat_list_cmp_total.trans k n q (is_less _ h) less)

behind_itself : (n : List ℕ) → is_behind (Some n) n ≡ false
behind_itself n = ap is_lt (tied_itself nat_list_cmp_total n)

all_behind : {X : Type 0} (n : List ℕ) (es : List (List ℕ × X)) → AllBehind n (filter (λ e. is_behind (Some n) e.0) es)
all_behind n [] = tt
all_behind n (e ∷ es) =
    elim (is_behind (Some n) e.0) as (λ b. is_behind (Some n) e.0 ≡ b
    → AllBehind n (cond b (e ∷ filter (λ e. is_behind (Some n) e.0) es) (filter (λ e. is_behind (Some n) e.0) es))) [
      | true ↦ λ yes. (is_less _ yes, all_behind n es)
      | false ↦ λ _. all_behind n es
    ] refl

pub shorter : {X : Type 0} (m : Named X) (other : Option (List ℕ)) (n : List ℕ) → contains_key m n ≡ true → is_behind other n ≡ true
    → length (behind m (Some n)) < length (behind m other)
shorter m other n has after =
    let value = is_there (get m n) has in
    fewer_yet (λ e. is_behind (Some n) e.0) (λ e. is_behind other e.0) (λ e h. later_behind other n e.0 after (is_less _ h))
    (entries m) n value.0
    (sym (get-entries m n) ∙ value.1) (behind_itself n) after

-- the values that pass, from name to name; the names of all of them are among those that p lets pass
module _ {X : Type 0} (m : Named X) (pass : List ℕ × X → Bool) (p : List ℕ → Bool)
    (all : (name : List ℕ) (v : X) → get m name ≡ Some v → pass (name, v) ≡ true → p name ≡ true) (other : Option (List ℕ)) where
  -- the values that pass behind a name
  abbrev pub left : Option (List ℕ) → List (List ℕ × X)
  left k = filter pass (behind m k)

  left_rise : (k : Option (List ℕ)) → Rise (left k)
  left_rise k = rise_filter pass (behind m k) (behind_rise m k)

  find_left : (k : Option (List ℕ)) (q : List ℕ) → find by_bytes q (left k) ≡ passed pass q (passed (λ e. is_behind k e.0) q (get m q))
  find_left k q = find_filter pass (behind m k) q (behind_rise m k) ∙ ap (passed pass q) (find_behind m k q)

  none_passes : (q : List ℕ) (v : X) (b : Bool) → pass (q, v) ≡ false → passed pass q (cond b (Some v) None) ≡ None
  none_passes q v true not = ap (λ b. cond b (Some v) None) not
  none_passes q v false not = refl

  -- none of these names is left
  pub none_left : IsFirstBehind p other None → left other ≡ []
  none_left none =
      same_list (left other) [] (left_rise other) tt (λ q. find_left other q
      ∙ elim (get m q) as (λ o. get m q ≡ o → passed pass q (passed (λ e. is_behind other e.0) q o) ≡ None) [
        | None ↦ λ _. refl
        | Some v ↦ λ is. elim (pass (q, v)) as (λ b. pass (q, v) ≡ b → passed pass q (cond (is_behind other q) (Some v) None) ≡ None) [
          | true ↦ λ yes. ap (λ b. passed pass q (cond b (Some v) None)) (none q (all q v is yes))
          | false ↦ λ not. none_passes q v (is_behind other q) not
        ] refl
      ] refl)

  module _ (n : List ℕ) (first : IsFirstBehind p other (Some n)) where
    same_side : (q : List ℕ) → p q ≡ true → eq_by_cmp by_bytes q n ≡ false → is_behind other q ≡ is_behind (Some n) q
    same_side q named apart =
        elim (by_bytes n q) as (λ o. by_bytes n q ≡ o → is_behind other q ≡ is_lt o) [
          | Less ↦ λ less. later_behind other n q first.1 less
          | Equal ↦ λ tied. absurd (never (sym apart ∙ ap is_eq (nat_list_cmp_total.antisymm q n ∙ ap ordering_reverse tied)))
          | Greater ↦ λ more. elim (is_behind other q) as (λ b. is_behind other q ≡ b → b ≡ false) [
            | true ↦ λ after. sym (ap is_lt (nat_list_cmp_total.antisymm q n ∙ ap ordering_reverse more)) ∙ first.2 q named after
            | false ↦ λ _. refl
          ] refl
        ] refl

    same_part : (q : List ℕ) → eq_by_cmp by_bytes q n ≡ false → passed pass q (passed (λ e. is_behind other e.0) q (get m q))
        ≡ passed pass q (passed (λ e. is_behind (Some n) e.0) q (get m q))
    same_part q apart =
        elim (get m q) as (λ o. get m q ≡ o → passed pass q (passed (λ e. is_behind other e.0) q o)
        ≡ passed pass q (passed (λ e. is_behind (Some n) e.0) q o)) [
          | None ↦ λ _. refl
          | Some v ↦ λ is. elim (pass (q, v)) as (λ b. pass (q, v) ≡ b → passed pass q (cond (is_behind other q) (Some v) None)
              ≡ passed pass q (cond (is_behind (Some n) q) (Some v) None)) [
                | true ↦ λ yes. ap (λ b. passed pass q (cond b (Some v) None)) (same_side q (all q v is yes) apart)
                | false ↦ λ not. none_passes q v (is_behind other q) not ∙ sym (none_passes q v (is_behind (Some n) q) not)
              ] refl
        ] refl

    own_part : (o : Option X) → passed pass n (passed (λ e. is_behind other e.0) n o) ≡ passed pass n o
    own_part None = refl
    own_part (Some v) = ap (λ b. passed pass n (cond b (Some v) None)) first.1

    own_gone : (o : Option X) → passed pass n (passed (λ e. is_behind (Some n) e.0) n o) ≡ None
    own_gone None = refl
    own_gone (Some v) = ap (λ b. passed pass n (cond b (Some v) None)) (behind_itself n)

    own : (q : List ℕ) → eq_by_cmp by_bytes q n ≡ true → q ≡ n
    own q tied = differ q n (equal _ tied)

    -- what stands under the next name doesn't pass
    pub passed_over : passed pass n (get m n) ≡ None → left other ≡ left (Some n)
    passed_over none = same_list _ _ (left_rise other) (left_rise (Some n)) (λ q. find_left other q
        ∙ elim (eq_by_cmp by_bytes q n) as (λ b. eq_by_cmp by_bytes q n ≡ b → passed pass q (passed (λ e. is_behind other e.0) q (get m q))
        ≡ passed pass q (passed (λ e. is_behind (Some n) e.0) q (get m q))) [
          | true ↦ λ tied. ap (λ k. passed pass k (passed (λ e. is_behind other e.0) k (get m k))) (own q tied) ∙ own_part (get m n) ∙ none
              ∙ sym (ap (λ k. passed pass k (passed (λ e. is_behind (Some n) e.0) k (get m k))) (own q tied) ∙ own_gone (get m n))
          | false ↦ λ apart. same_part q apart
        ] refl
        ∙ sym (find_left (Some n) q))

    -- it passes
    pub next_left : (v : X) → passed pass n (get m n) ≡ Some v → left other ≡ (n, v) ∷ left (Some n)
    next_left v is = same_list _ _ (left_rise other) (
      behind_filter pass n (behind m (Some n)) (all_behind n (entries m)),
      left_rise (Some n),
    ) (λ q. find_left other q
        ∙ elim (eq_by_cmp by_bytes q n) as (λ b. eq_by_cmp by_bytes q n ≡ b → passed pass q (passed (λ e. is_behind other e.0) q (get m q))
        ≡ cond b (Some v) (find by_bytes q (left (Some n)))) [
          | true ↦ λ tied. ap (λ k. passed pass k (passed (λ e. is_behind other e.0) k (get m k))) (own q tied) ∙ own_part (get m n) ∙ is
          | false ↦ λ apart. same_part q apart ∙ sym (find_left (Some n) q)
        ] refl)
