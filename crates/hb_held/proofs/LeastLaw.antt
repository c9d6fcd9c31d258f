-- The law of the least name, from what is found among the entries, and in any list of names that misses none.
use Rattle.std.proofs.Common.{◌≡◌, ℕ, Bool, true, false, cond, List, [], ◌∷◌, Option, Some, None, is_some, refl, sym, ap, ◌∙◌, subst}
use Rattle.std.specs.FinMap.{find, entries, get, get-entries}
use Rattle.std.specs.Ordering.{is_lt, eq_by_cmp, ordering_reverse}
use Rattle.std.specs.declared.cmp.Ordering.TheVariants.{Less, Equal, Greater}
use Rattle.std.specs.Cmp.Lexicographic.{nat_list_cmp_total}
use Rattle.hb_base.specs.declared.ip.Ip.{Ip}
use Rattle.hb_index.specs.Named.{Named, Rise}
use Rattle.hb_index.proofs.Entries.{by_bytes, differ, equal}
use Rattle.hb_index.proofs.Rising.{entries_rise, rise_filter, same, later_is_greater}
use Rattle.hb_records.specs.declared.address.AddressRecord.{AddressRecord}
use Rattle.hb_records.specs.declared.workload.Workload.{Workload}
use Rattle.hb_held.specs.declared.versioned.Versioned.{Versioned}
use Rattle.hb_held.specs.Held.{Resources}
use Rattle.hb_held.specs.Lookup.{workload_in, has_address, workload_at, least, found_by, kept_if}
use Rattle.hb_held.specs.Laws.{IsLeastAt, LeastIsFound}
use Rattle.hb_held.proofs.Least.{first, rise_named, first_is_least}
use Rattle.hb_held.proofs.Searches.{passing, HasAtMost, found_is_held, none_is_smaller}

pub no : {P : Type 0} (b : Bool) → b ≡ true → b ≡ false → P
no true p q = absurd cc
no false p q = absurd cc

tie : (a b : List ℕ) → is_lt (by_bytes a b) ≡ false → is_lt (by_bytes b a) ≡ false → a ≡ b
tie a b p q =
    differ a b (elim (by_bytes b a) as (λ o. by_bytes b a ≡ o → is_lt o ≡ false → by_bytes a b ≡ Equal) [
      | Less ↦ λ _ r. absurd cc
      | Equal ↦ λ e _. nat_list_cmp_total.antisymm a b ∙ ap ordering_reverse e
      | Greater ↦ λ e _. no (is_lt (by_bytes a b)) (ap is_lt (nat_list_cmp_total.antisymm a b ∙ ap ordering_reverse e)) p
    ] refl q)

pub nothing : {X P : Type 0} (x : X) → None ≡ Some x → P
nothing x e = absurd cc

there : {X : Type 0} (o : Option X) (x : X) → o ≡ Some x → is_some o ≡ true
there o x e = ap is_some e

module _ {X : Type 0} (g : Versioned AddressRecord → Option X) (p : X → Bool) (m : Named (Versioned AddressRecord)) where
  -- under a name a value is found that passes
  abbrev pub IsBy : List ℕ → X → Type 0
  IsBy name x = (v : Versioned AddressRecord) × (get m name ≡ Some v) × (g v ≡ Some x) × (p x ≡ true)

  -- it is such a value, and none stands under a smaller name; none exactly where there is none
  abbrev pub IsLeastBy : Option (List ℕ × X) → Type 0
  IsLeastBy None = (name : List ℕ) (x : X) → IsBy name x → ⊥
  IsLeastBy (Some f) = IsBy f.0 f.1 × ((name : List ℕ) (x : X) → IsBy name x → is_lt (by_bytes name f.0) ≡ false)

  none_smaller : (name : List ℕ) (x : X) → IsBy name x → HasAtMost g p name (first (passing g p (entries m)))
  none_smaller name x at = none_is_smaller g p (entries m) name at.0 x (entries_rise m) (sym (get-entries m name) ∙ at.1) at.2 at.3

  least_by : (o : Option (List ℕ × X)) → first (passing g p (entries m)) ≡ o → IsLeastBy o
  least_by None is = λ name x at. subst (HasAtMost g p name) is (none_smaller name x at)
  least_by (Some f) is =
      let held = found_is_held g p (entries m) f (entries_rise m) is in (
        (held.0, get-entries m f.0 ∙ held.1, held.2, held.3),
        λ name x at. subst (HasAtMost g p name) is (none_smaller name x at),
      )

  pub least_found_by : IsLeastBy (least (passing g p (entries m)))
  least_found_by = least_by _ (sym (first_is_least _ (rise_filter (λ e. p e.1) _ (rise_named g (entries m) (entries_rise m)))))

  one_value : (name : List ℕ) (x y : X) → IsBy name x → IsBy name y → x ≡ y
  one_value name x y a b = same x y (sym a.2 ∙ ap g (same a.0 b.0 (sym a.1 ∙ b.1)) ∙ b.2)

  -- there is one least at most
  pub one_least_by : (a b : Option (List ℕ × X)) → IsLeastBy a → IsLeastBy b → a ≡ b
  one_least_by None None s t = refl
  one_least_by None (Some h) s t = absurd (s h.0 h.1 t.0)
  one_least_by (Some f) None s t = absurd (t f.0 f.1 s.0)
  one_least_by (Some f) (Some h) s t =
      let names : f.0 ≡ h.0 = tie f.0 h.0 (t.1 f.0 f.1 s.0) (s.1 h.0 h.1 t.0) in
      let at : IsBy f.0 h.1 = subst (λ n. IsBy n h.1) (sym names) t.0 in
      ap Some (ap (λ n. (n, f.1)) names ∙ ap (λ x. (h.0, x)) (one_value f.0 f.1 h.1 s.0 at))

  pub is_least_by : (o : Option (List ℕ × X)) → IsLeastBy o → o ≡ least (passing g p (entries m))
  is_least_by o h = one_least_by o _ h least_found_by

  kept_is : (o : Option X) (x : X) → kept_if p o ≡ Some x → (o ≡ Some x) × (p x ≡ true)
  kept_is None x is = nothing x is
  kept_is (Some y) x is =
      elim (p y) as (λ b. p y ≡ b → cond b (Some y) None ≡ Some x → (Some y ≡ Some x) × (p x ≡ true)) [
        | true ↦ λ passes there. (there, ap p (sym (same y x there)) ∙ passes)
        | false ↦ λ _ there. nothing x there
      ] refl is

  -- what a look-up of a name finds
  pub by_value : (name : List ℕ) (x : X) → found_by g p (get m name) ≡ Some x → IsBy name x
  by_value name x is =
      elim (get m name) as (λ o. get m name ≡ o → found_by g p o ≡ Some x → IsBy name x) [
        | None ↦ λ _ there. nothing x there
        | Some v ↦ λ held there. let kept = kept_is (g v) x there in (v, held, kept.0, kept.1)
      ] refl is

  pub value_by : (name : List ℕ) (x : X) → IsBy name x → found_by g p (get m name) ≡ Some x
  value_by name x at = ap (found_by g p) at.1 ∙ ap (kept_if p) at.2 ∙ ap (λ b. cond b (Some x) None) at.3

  module _ {U : Type 0} where
    -- every name under which a value passes is among these
    abbrev pub MissesNone : List (List ℕ × U) → Type 0
    MissesNone rest = (name : List ℕ) (x : X) → IsBy name x → is_some (find by_bytes name rest) ≡ true

    pub none_left : (rest : List (List ℕ × U)) → MissesNone rest → rest ≡ [] → IsLeastBy None
    none_left rest all is = λ name x at. no false (ap (λ r. is_some (find by_bytes name r)) (sym is) ∙ all name x at) refl

    pub passed_over : (e : List ℕ × U) (rest : List (List ℕ × U)) → MissesNone (e ∷ rest) → found_by g p (get m e.0) ≡ None
        → MissesNone rest
    passed_over e rest all none = λ name x at.
        elim (eq_by_cmp by_bytes name e.0) as (λ b. eq_by_cmp by_bytes name e.0 ≡ b
        → is_some (cond b (Some e.1) (find by_bytes name rest)) ≡ true → is_some (find by_bytes name rest) ≡ true) [
          | true ↦ λ tied _. nothing x (sym none ∙ ap (λ n. found_by g p (get m n)) (sym (differ name e.0 (equal _ tied)))
              ∙ value_by name x at)
          | false ↦ λ _ there. there
        ] refl (all name x at)

    pub first_found : (e : List ℕ × U) (rest : List (List ℕ × U)) (x : X) → Rise (e ∷ rest) → MissesNone (e ∷ rest)
        → found_by g p (get m e.0) ≡ Some x → IsLeastBy (Some (e.0, x))
    first_found e rest x rises all is = (
      by_value e.0 x is,
      λ name y at. elim (eq_by_cmp by_bytes name e.0) as (λ b. eq_by_cmp by_bytes name e.0 ≡ b
          → is_some (cond b (Some e.1) (find by_bytes name rest)) ≡ true → is_lt (by_bytes name e.0) ≡ false) [
            | true ↦ λ tied _. ap is_lt (equal _ tied)
            | false ↦ λ _ there. later_is_greater e.0 rest name rises.0 there
          ] refl (all name y at),
    )

module _ (h : Resources) (ip : Ip) where
  to_by : (o : Option (List ℕ × Workload)) → IsLeastAt h ip o → IsLeastBy workload_in (has_address h.network ip) h.addresses o
  to_by None l = l
  to_by (Some f) l = l

  from_by : (o : Option (List ℕ × Workload)) → IsLeastBy workload_in (has_address h.network ip) h.addresses o → IsLeastAt h ip o
  from_by None l = l
  from_by (Some f) l = l

  pub one_least : (a b : Option (List ℕ × Workload)) → IsLeastAt h ip a → IsLeastAt h ip b → a ≡ b
  one_least a b p q = one_least_by workload_in (has_address h.network ip) h.addresses a b (to_by a p) (to_by b q)

pub least_found : LeastIsFound
unfolding workload_at
least_found h ip = from_by h ip (workload_at h ip) (least_found_by workload_in (has_address h.network ip) h.addresses)
