-- The index of a header in the static table.
use Rattle.std.proofs.Common.{◌≡◌, ℕ, suc, ◌+◌, ◌<◌, ◌≤◌, Bool, true, false, List, [], ◌∷◌, length, drop, Option, Some, None, refl, sym, ap, ◌∙◌, arith, inl, inr}
use Rattle.std.specs.List.{slice_get, slice_index_or}
use Rattle.std.specs.Option.{option_map}
use Rattle.std.specs.Str.{bytes_eq}
use Rattle.std.proofs.lemmas.Bool.{cases_Bool}
use Rattle.std.proofs.lemmas.List.{drop_more, drop_all}
use Rattle.std.proofs.lemmas.Option.{get_or_from_slice_get, slice_get-get_or, slice_get-map}
use Rattle.std.proofs.lemmas.Slice.Eq.{bytes_eq-Decides}
use Rattle.hb_hpack.specs.declared.static_table.TheConstants.{NAME_LENGTHS}
use Rattle.hb_hpack.specs.declared.header.Header.{Header}
use Rattle.hb_hpack.specs.StaticTable.{header, static_headers}
use Rattle.hb_hpack.specs.Encoding.{static_at, index_from}
use Rattle.hb_hpack.proofs.StaticHeaders.{static_count, name_lengths}

pub static_at_is : (place : ℕ) (h : Header) → slice_get static_headers place ≡ Some h → static_at place ≡ h
unfolding static_at
static_at_is place h e = get_or_from_slice_get static_headers place h (header [] []) e

-- the header at a place, and those behind it
headers_from : (place : ℕ) → place < 61 → drop place static_headers ≡ static_at place ∷ drop (place + 1) static_headers
unfolding static_at
headers_from place lt = let count = static_count in drop_more static_headers place (header [] []) (omega arith)

pub index_here : (test : Header → Bool) (place : ℕ) (whole : Option ℕ) → place < 61 → test (static_at place) ≡ true
    → index_from test (1 + place) (drop place static_headers) ≡ whole → Some (place + 1) ≡ whole
unfolding index_from
index_here test place whole lt meets so_far =
    let same : place + 1 ≡ 1 + place = omega arith in
    let here : index_from test (1 + place) (drop place static_headers) ≡ Some (1 + place) =
    ap (index_from test (1 + place)) (headers_from place lt) ∙ rw (meets, index_from) refl in
    rw same (sym here ∙ so_far)

pub index_behind : (test : Header → Bool) (place : ℕ) (whole : Option ℕ) → place < 61 → test (static_at place) ≡ false
    → index_from test (1 + place) (drop place static_headers) ≡ whole
    → index_from test (1 + (place + 1)) (drop (place + 1) static_headers) ≡ whole
unfolding index_from
index_behind test place whole lt misses so_far =
    let same : 1 + (place + 1) ≡ suc (1 + place) = omega arith in
    let behind : index_from test (1 + place) (drop place static_headers) ≡ index_from test (suc (1 + place))
    (drop (place + 1) static_headers) = ap (index_from test (1 + place)) (headers_from place lt) ∙ rw (misses, index_from) refl in
    rw same (sym behind ∙ so_far)

pub index_none : (test : Header → Bool) (place : ℕ) (whole : Option ℕ) → 61 ≤ place
    → index_from test (1 + place) (drop place static_headers) ≡ whole → None ≡ whole
unfolding index_from
index_none test place whole le so_far =
    let count = static_count in
    let none : drop place static_headers ≡ [] = drop_all place static_headers (omega arith) in
    sym (ap (index_from test (1 + place)) none) ∙ so_far

-- the length that is kept of the name at a place
length_at : (place : ℕ) → place < 61 → slice_index_or NAME_LENGTHS place 0 ≡ length (static_at place).name
unfolding static_at
length_at place lt =
    let count = static_count in
    let here : slice_get static_headers place ≡ Some (static_at place) =
    slice_get-get_or static_headers place (header [] []) (omega arith) in
    let kept : slice_get NAME_LENGTHS place ≡ Some (length (static_at place).name) =
    ap (λ (ns : List ℕ). slice_get ns place) (sym name_lengths)
    ∙ slice_get-map (λ (h : Header). length h.name) static_headers place ∙ ap (option_map (λ (h : Header). length h.name)) here in
    get_or_from_slice_get NAME_LENGTHS place _ 0 kept

-- a text of another length isn't that name
pub other_length : (place : ℕ) (name : List ℕ) → place < 61 → ¬ (length name ≡ slice_index_or NAME_LENGTHS place 0)
    → bytes_eq (static_at place).name name ≡ false
other_length place name lt other =
    elim (cases_Bool (bytes_eq (static_at place).name name)) [
      | inl same ↦ absurd (other (ap length (sym ((bytes_eq-Decides (static_at place).name name).0 same)) ∙ sym (length_at place lt)))
      | inr differs ↦ differs
    ]
