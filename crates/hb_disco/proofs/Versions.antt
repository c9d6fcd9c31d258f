-- A map of names to versions, seen without where they lie in memory.
use Rattle.std.proofs.Common.{◌≡◌, ℕ, ◌+◌, ◌<◌, List, [], ◌∷◌, ◌++◌, length, map, drop, get_or, refl, sym, ap, ◌∙◌}
use Rattle.std.proofs.lemmas.List.{at_drop_more}
use Rattle.std.specs.Borrow.{Bor}
use Rattle.std.specs.BTreeMap.{insert_entry}
use Rattle.std.specs.Cmp.Lexicographic.{slice_cmp}
use Rattle.std.specs.Ordering.{nat_cmp, match_ordering}
use Rattle.std.specs.declared.cmp.Ordering.TheVariants.{Less, Equal, Greater}
use Rattle.std.specs.List.{flat_map}
use Rattle.std.specs.Map.Iter.{deref_pair}
use Rattle.hb_wire.specs.Writing.{bytes_of}
use Rattle.hb_disco.specs.Request.{with_versions, entry_of}
use Rattle.hb_disco.specs.declared.request.NameVersion.{NameVersion}

abbrev pub seen : Bor (List ℕ) × Bor (List ℕ) → List ℕ × List ℕ
seen e = (e.0.now, e.1.now)

-- one more entry
pub seen_insert : (es : List (Bor (List ℕ) × Bor (List ℕ))) (k v : Bor (List ℕ))
    → map seen (insert_entry (λ a b. slice_cmp nat_cmp a.now b.now) es k v) ≡ insert_entry (slice_cmp nat_cmp) (map seen es) k.now v.now
seen_insert [] k v = refl
seen_insert (e ∷ es) k v =
    elim (slice_cmp nat_cmp k.now e.0.now) as (λ o. map seen (match_ordering o ((k, v) ∷ e ∷ es) ((e.0, v) ∷ es)
    (e ∷ insert_entry (λ a b. slice_cmp nat_cmp a.now b.now) es k v)) ≡ match_ordering o ((k.now, v.now) ∷ seen e ∷ map seen es)
    ((e.0.now, v.now) ∷ map seen es) (seen e ∷ insert_entry (slice_cmp nat_cmp) (map seen es) k.now v.now)) [
      | Less ↦ refl
      | Equal ↦ refl
      | Greater ↦ ap (λ (xs : List (List ℕ × List ℕ)). seen e ∷ xs) (seen_insert es k v)
    ]

-- one more version of a list was put into the map
pub one_more : (vs : List NameVersion) (i : ℕ) (v : NameVersion) (es after : List (Bor (List ℕ) × Bor (List ℕ))) (k w : Bor (List ℕ))
    → i < length vs → v ≡ get_or vs i v → k.now ≡ v.name → w.now ≡ v.version
    → after ≡ insert_entry (λ a b. slice_cmp nat_cmp a.now b.now) es k w
    → with_versions [] vs ≡ with_versions (map seen es) (drop i vs)
    → with_versions [] vs ≡ with_versions (map seen after) (drop (i + 1) vs)
one_more vs i v es after k w lt at is_key is_value put so_far =
    let next : with_versions (map seen es) (drop i vs)
    ≡ with_versions (insert_entry (slice_cmp nat_cmp) (map seen es) (get_or vs i v).name (get_or vs i v).version) (drop (i + 1) vs) =
    at_drop_more (with_versions (map seen es)) vs i v lt in
    let same : map seen after ≡ insert_entry (slice_cmp nat_cmp) (map seen es) v.name v.version =
    rw (put, seen_insert es k w, is_key, is_value) refl in
    so_far ∙ next ∙ rw (sym at, same) refl

-- the fields of the entries of the map
pub fields_written : (xs : List (Bor (Bor (List ℕ)) × Bor (Bor (List ℕ)))) (es : List (Bor (List ℕ) × Bor (List ℕ)))
    (entries : List (List ℕ × List ℕ)) → map deref_pair xs ≡ es → map seen es ≡ entries
    → flat_map (λ e. bytes_of 5 (entry_of (e.0.now.now, e.1.now.now))) xs ≡ flat_map (λ e. bytes_of 5 (entry_of e)) entries
fields_written xs es entries all is = same xs ∙ ap (λ (ys : List (List ℕ × List ℕ)). flat_map (λ e. bytes_of 5 (entry_of e)) ys)
    (ap (λ (ys : List (Bor (List ℕ) × Bor (List ℕ))). map seen ys) all ∙ is) where
      same : (ys : List (Bor (Bor (List ℕ)) × Bor (Bor (List ℕ))))
          → flat_map (λ e. bytes_of 5 (entry_of (e.0.now.now, e.1.now.now))) ys
          ≡ flat_map (λ e. bytes_of 5 (entry_of e)) (map seen (map deref_pair ys))
      same [] = refl
      same (y ∷ ys) = ap (λ (bytes : List ℕ). bytes_of 5 (entry_of (y.0.now.now, y.1.now.now)) ++ bytes) (same ys)
