-- What is found under the names of an index is what passes of all records.
use Rattle.std.proofs.Common.{◌≡◌, ℕ, Bool, true, false, cond, List, [], ◌∷◌, Option, Some, None, is_some, refl, ap, sym, ◌∙◌}
use Rattle.std.specs.Prelude.{filter}
use Rattle.std.specs.List.{filter_map, cons_option}
use Rattle.std.specs.Option.{option_map}
use Rattle.std.specs.Ordering.{is_eq, eq_by_cmp}
use Rattle.std.specs.FinMap.{find, entries, get, get-entries}
use Rattle.hb_index.specs.Named.{Named, AllBehind, Rise}
use Rattle.hb_index.proofs.Alike.{passed, find_filter, same_list}
use Rattle.hb_index.proofs.Entries.{by_bytes, differ, equal}
use Rattle.hb_index.proofs.Rising.{entries_rise, rise_filter}
use Rattle.hb_records.specs.declared.address.AddressRecord.{AddressRecord}
use Rattle.hb_records.specs.declared.workload.Workload.{Workload}
use Rattle.hb_held.specs.declared.versioned.Versioned.{Versioned}
use Rattle.hb_held.specs.Endpoints.{endpoints_at}
use Rattle.hb_held.specs.Lookup.{workload_in, named_workload, found_by, kept_if}
use Rattle.hb_held.proofs.Least.{named_by, rise_named}
use Rattle.hb_held.proofs.LeastLaw.{MissesNone, by_value, no}

none_behind : {X : Type 0} (k : List ℕ) (es : List (List ℕ × X)) → AllBehind k es → find by_bytes k es ≡ None
none_behind k [] h = refl
none_behind k (e ∷ es) h = ap (λ b. cond b (Some e.1) (find by_bytes k es)) (ap is_eq h.0) ∙ none_behind k es h.1

module _ {A X : Type 0} (g : A → Option X) where
  -- what g makes of what was found
  abbrev pub made : Option A → Option X
  made None = None
  made (Some v) = g v

  find_named : (es : List (List ℕ × A)) (q : List ℕ) → Rise es → find by_bytes q (filter_map (named_by g) es) ≡ made (find by_bytes q es)
  find_named [] q h = refl
  find_named (e ∷ es) q h =
      elim (eq_by_cmp by_bytes q e.0) as (λ b. eq_by_cmp by_bytes q e.0 ≡ b
      → find by_bytes q (cons_option (option_map (λ x. (e.0, x)) (g e.1)) (filter_map (named_by g) es))
      ≡ made (cond b (Some e.1) (find by_bytes q es))) [
        | true ↦ λ tie. elim (g e.1) as (λ o.
            find by_bytes q (cons_option (option_map (λ x. (e.0, x)) o) (filter_map (named_by g) es)) ≡ o) [
              | None ↦ find_named es q h.1
                  ∙ ap made (ap (λ n. find by_bytes n es) (differ q e.0 (equal _ tie)) ∙ none_behind e.0 es h.0)
              | Some x ↦ ap (λ b. cond b (Some x) (find by_bytes q (filter_map (named_by g) es))) tie
            ]
        | false ↦ λ other. elim (g e.1) as (λ o.
            find by_bytes q (cons_option (option_map (λ x. (e.0, x)) o) (filter_map (named_by g) es)) ≡ made (find by_bytes q es)) [
              | None ↦ find_named es q h.1
              | Some x ↦ ap (λ b. cond b (Some x) (find by_bytes q (filter_map (named_by g) es))) other ∙ find_named es q h.1
            ]
      ] refl

module _ {U X : Type 0} (look : List ℕ → Option X) where
  -- what is found under a name, with the name
  abbrev pub looked : List ℕ × U → Option (List ℕ × X)
  looked e = option_map (λ x. (e.0, x)) (look e.0)

  behind_looked : (k : List ℕ) (es : List (List ℕ × U)) → AllBehind k es → AllBehind k (filter_map looked es)
  behind_looked k [] h = tt
  behind_looked k (e ∷ es) h =
      elim (look e.0) as (λ o. AllBehind k (cons_option (option_map (λ x. (e.0, x)) o) (filter_map looked es))) [
        | None ↦ behind_looked k es h.1
        | Some x ↦ (h.0, behind_looked k es h.1)
      ]

  rise_looked : (es : List (List ℕ × U)) → Rise es → Rise (filter_map looked es)
  rise_looked [] h = tt
  rise_looked (e ∷ es) h =
      elim (look e.0) as (λ o. Rise (cons_option (option_map (λ x. (e.0, x)) o) (filter_map looked es))) [
        | None ↦ rise_looked es h.1
        | Some x ↦ (behind_looked e.0 es h.0, rise_looked es h.1)
      ]

  -- what is found under a name that is among these
  abbrev where_found : Option U → List ℕ → Option X
  where_found None q = None
  where_found (Some u) q = look q

  gone : (o : Option U) (q : List ℕ) → look q ≡ None → where_found o q ≡ look q
  gone None q none = sym none
  gone (Some u) q none = refl

  find_looked : (es : List (List ℕ × U)) (q : List ℕ) → find by_bytes q (filter_map looked es) ≡ where_found (find by_bytes q es) q
  find_looked [] q = refl
  find_looked (e ∷ es) q =
      elim (eq_by_cmp by_bytes q e.0) as (λ b. eq_by_cmp by_bytes q e.0 ≡ b
      → find by_bytes q (cons_option (option_map (λ x. (e.0, x)) (look e.0)) (filter_map looked es))
      ≡ where_found (cond b (Some e.1) (find by_bytes q es)) q) [
        | true ↦ λ tie.
            let named : q ≡ e.0 = differ q e.0 (equal _ tie) in
            elim (look e.0) as (λ o. look e.0 ≡ o
            → find by_bytes q (cons_option (option_map (λ x. (e.0, x)) o) (filter_map looked es)) ≡ look q) [
              | None ↦ λ none. find_looked es q ∙ gone (find by_bytes q es) q (ap look named ∙ none)
              | Some x ↦ λ is. ap (λ b. cond b (Some x) (find by_bytes q (filter_map looked es))) tie ∙ sym (ap look named ∙ is)
            ] refl
        | false ↦ λ other. elim (look e.0) as (λ o.
            find by_bytes q (cons_option (option_map (λ x. (e.0, x)) o) (filter_map looked es)) ≡ where_found (find by_bytes q es) q) [
              | None ↦ find_looked es q
              | Some x ↦ ap (λ b. cond b (Some x) (find by_bytes q (filter_map looked es))) other ∙ find_looked es q
            ]
      ] refl

module _ (m : Named (Versioned AddressRecord)) (passes : Workload → Bool) where
  abbrev passing : List ℕ × Workload → Bool
  passing e = passes e.1

  abbrev look : List ℕ → Option Workload
  look q = found_by workload_in passes (get m q)

  kept : (q : List ℕ) (o : Option Workload) → passed passing q o ≡ kept_if passes o
  kept q None = refl
  kept q (Some w) = refl

  found_is : (q : List ℕ) (o : Option (Versioned AddressRecord)) → passed passing q (made workload_in o) ≡ found_by workload_in passes o
  found_is q None = refl
  found_is q (Some v) = kept q (workload_in v)

  find_in_all : (q : List ℕ) → find by_bytes q (filter passing (filter_map named_workload (entries m))) ≡ look q
  find_in_all q =
      find_filter passing (filter_map named_workload (entries m)) q (rise_named workload_in (entries m) (entries_rise m))
      ∙ ap (passed passing q) (find_named workload_in (entries m) q (entries_rise m))
      ∙ ap (λ o. passed passing q (made workload_in o)) (sym (get-entries m q))
      ∙ found_is q (get m q)

  -- a list of names that misses none finds the same
  pub served : (es : List (List ℕ × Unit {0})) → Rise es → MissesNone workload_in passes m es
      → endpoints_at m passes es ≡ filter passing (filter_map named_workload (entries m))
  served es rises all =
      same_list _ _ (rise_looked look es rises) (rise_filter passing _ (rise_named workload_in (entries m) (entries_rise m))) (λ q.
      find_looked look es q
      ∙ elim (find by_bytes q es) as (λ o. find by_bytes q es ≡ o → where_found look o q ≡ look q) [
        | Some u ↦ λ _. refl
        | None ↦ λ none. elim (look q) as (λ w. look q ≡ w → None ≡ w) [
          | None ↦ λ _. refl
          | Some w ↦ λ is. no false (sym (ap is_some none) ∙ all q w (by_value workload_in passes m q w is)) refl
        ] refl
      ] refl
      ∙ sym (find_in_all q))
