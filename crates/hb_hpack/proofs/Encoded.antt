-- The block that is written stands for its headers.
use Rattle.std.proofs.Common.{◌≡◌, ℕ, zero, suc, ◌+◌, ◌-◌, ◌*◌, ◌/◌, ◌%◌, ◌^◌, ◌<◌, ◌≤◌, Bool, true, false, List, [], ◌∷◌, ◌++◌, length, Option, Some, None, refl, sym, ap, subst, ◌∙◌, arith, inl, inr, lit<, lit≤}
use Rattle.std.specs.List.{flat_map, slice_get}
use Rattle.std.specs.Cmp.Lexicographic.{bytes_decides}
use Rattle.std.proofs.lemmas.Bool.{cases_lt}
use Rattle.std.proofs.lemmas.Option.{slice_get_within}
use Rattle.std.proofs.lemmas.List.{append-nil}
use Rattle.hb_hpack.specs.declared.header.Header.{Header}
use Rattle.hb_hpack.specs.declared.spelling.Spelling.{Spelling}
use Rattle.hb_hpack.specs.declared.spelling.Spelling.TheVariants.{Plain, Huffman}
use Rattle.hb_hpack.specs.Integer.{AreGroups, full, IsInteger}
use Rattle.hb_hpack.specs.Literal.{IsString}
use Rattle.hb_hpack.specs.StaticTable.{header, static_headers}
use Rattle.hb_hpack.specs.Table.{Table, resized, entry_at}
use Rattle.hb_hpack.specs.Block.{IsName, IsLiteral, Represents, ReadsHeaders, Reads}
use Rattle.hb_base.specs.Groups.{groups_of}
use Rattle.hb_hpack.specs.Encoding.{integer_of, spelled, string_of, same_name, same_header, index_from, literal_of, representation_of, header_of, Writing, opening, block_of, cleared, MayHave, CanSpell, AreWritable, status_header}
use Rattle.hb_hpack.proofs.CodeTable.{both}
use Rattle.hb_hpack.proofs.Outcomes.{chosen}
use Rattle.hb_hpack.proofs.Fitting.{fitting_zero}
use Rattle.hb_hpack.proofs.StaticHeaders.{static_count}
use Rattle.hb_hpack.proofs.Entries.{entry_static}
use Rattle.hb_hpack.proofs.Writing.{is_spelled}
use Rattle.hb_base.proofs.GroupLemmas.{groups_last, groups_more}
use Rattle.hb_hpack.proofs.Appending.{integer_small, integer_large}

-- ---- integers

-- the groups that are written make the number
pub record MakesGroups (groups : List ℕ) (n left : ℕ) : Type 0 where
  pub are : AreGroups groups n
  pub few : length groups ≤ left

one_more : (b n : ℕ) (groups : List ℕ) (high : ℕ) → 128 ≤ b → b < 256 → n + 128 ≡ b + 128 * high → AreGroups groups high
    → AreGroups (b ∷ groups) n
one_more b n [] high le lt e are = absurd are
one_more b n (c ∷ groups) high le lt e are = (le, lt, high, e, are)

groups_made : (left most n : ℕ) → n < 128 ^ left → left ≤ most → 0 < left → MakesGroups (groups_of most n) n left
groups_made zero most n small le some = absurd (omega arith)
groups_made (suc left) most n small le some =
    elim (cases_lt n 128) [
      | inl lt ↦ subst (λ (xs : List ℕ). MakesGroups xs n (suc left)) (sym (groups_last most n (omega arith) lt))
          (record { are = (lt, refl); few = omega arith })
      | inr ge ↦
          let power : 128 ^ suc left ≡ 128 * 128 ^ left = omega arith in
          let below : n / 128 < 128 ^ left = omega arith in
          let more : 0 < left = left_more left n small ge in
          let r = groups_made left (most - 1) (n / 128) below (omega arith) more in
          subst (λ (xs : List ℕ). MakesGroups xs n (suc left)) (sym (groups_more most n (omega arith) ge))
          (record {
            are = one_more (n % 128 + 128) n (groups_of (most - 1) (n / 128)) (n / 128) (omega arith) (omega arith)
                (omega arith) r.are;
            few = omega (arith, r.few);
          })
    ]
  where
    left_more : (left n : ℕ) → n < 128 ^ suc left → 128 ≤ n → 0 < left
    left_more zero n lt ge = absurd (omega arith)
    left_more (suc left) n lt ge = omega arith

integer_is : (prefix flag n : ℕ) → n < 2 ^ 32 → IsInteger prefix flag n (integer_of prefix flag n)
integer_is prefix flag n small =
    elim (cases_lt n (full prefix)) [
      | inl lt ↦ IsInteger.within lt (integer_small prefix flag n lt)
      | inr ge ↦
          let r = groups_made 5 10 (n - full prefix) (omega arith) (omega arith) (omega arith) in
          IsInteger.beyond (groups_of 10 (n - full prefix)) (n - full prefix) (integer_large prefix flag n ge) r.are r.few
          (omega arith) small
    ]

-- ---- strings

string_is : (spelling : Spelling) (text : List ℕ) → CanSpell spelling text → IsString text (string_of spelling text)
unfolding string_of
string_is Plain text can = IsString.plain (integer_of 7 0 (length text)) (integer_is 7 0 (length text) can) refl
string_is Huffman text can =
    IsString.coded (integer_of 7 128 (length (spelled Huffman text))) (spelled Huffman text)
    (integer_is 7 128 (length (spelled Huffman text)) can.0) (is_spelled text can.1) refl

-- ---- headers

-- an index that was found
pub record Found (test : Header → Bool) (k i : ℕ) (hs : List Header) : Type 0 where
  pub place : ℕ
  pub entry : Header
  pub index : i ≡ k + place
  pub there : slice_get hs place ≡ Some entry
  pub meets : test entry ≡ true

some_is : (a b : ℕ) → Some a ≡ Some b → a ≡ b
some_is a b e = cc

found : (test : Header → Bool) (hs : List Header) (k i : ℕ) → index_from test k hs ≡ Some i → Found test k i hs
unfolding index_from
found test [] k i e = absurd cc
found test (h ∷ hs) k i e =
    elim (chosen (test h) _ _ _ e) [
      | inl p ↦ record { place = 0; entry = h; index = sym (some_is k i p.1) ∙ omega arith; there = refl; meets = p.0 }
      | inr p ↦ let r = found test hs (suc k) i p.1 in
          record { place = suc r.place; entry = r.entry; index = r.index ∙ omega arith; there = r.there; meets = r.meets }
    ]

static_found : (test : Header → Bool) (table : Table) (i : ℕ) (f : Found test 1 i static_headers)
    → (entry_at table i ≡ Some f.entry) × (i < 2 ^ 32)
static_found test table i f =
    let count = static_count in
    let within = slice_get_within static_headers f.place f.entry f.there in
    let index = f.index in
    let back : i - 1 ≡ f.place = omega arith in
    (entry_static table i (omega arith) (omega arith) ∙ ap (λ k. slice_get static_headers k) back ∙ f.there, omega arith)

name_is : (spelling : Spelling) (table : Table) (h : Header) (o : Option ℕ) → index_from (same_name h) 1 static_headers ≡ o
    → CanSpell spelling h.name → CanSpell spelling h.value
    → IsLiteral table 4 0 h (literal_of o spelling h)
name_is spelling table h (Some i) e name value =
    let f = found (same_name h) static_headers 1 i e in
    let s = static_found (same_name h) table i f in
    IsLiteral.literal (integer_of 4 0 i) (string_of spelling h.value)
    (IsName.indexed i f.entry (integer_is 4 0 i s.1) s.0 (sym ((bytes_decides f.entry.name h.name).0 f.meets)))
    (string_is spelling h.value value) refl
name_is spelling table h None e name value =
    IsLiteral.literal (0 ∷ string_of spelling h.name) (string_of spelling h.value)
    (IsName.new (0 ∷ []) (string_of spelling h.name) (IsInteger.within (lit< tt) refl) (string_is spelling h.name name) refl)
    (string_is spelling h.value value) refl

same_is : (entry h : Header) → same_header h entry ≡ true → entry ≡ h
same_is entry h e =
    let p = both _ _ e in
    let name : entry.name ≡ h.name = (bytes_decides entry.name h.name).0 p.0 in
    let value : entry.value ≡ h.value = (bytes_decides entry.value h.value).0 p.1 in
    ap (λ (n : List ℕ). header n entry.value) name ∙ ap (λ (v : List ℕ). header h.name v) value

represented : (spelling : Spelling) (table : Table) (h : Header) (o : Option ℕ) → index_from (same_header h) 1 static_headers ≡ o
    → CanSpell spelling h.name → CanSpell spelling h.value
    → Represents table (representation_of o spelling h) h table
represented spelling table h (Some i) e name value =
    let f = found (same_header h) static_headers 1 i e in
    let s = static_found (same_header h) table i f in
    Represents.indexed i (integer_is 7 128 i s.1) (s.0 ∙ ap (λ (g : Header). Some g) (same_is f.entry h f.meets)) refl
represented spelling table h None e name value =
    Represents.passed (name_is spelling table h (index_from (same_name h) 1 static_headers) refl name value) refl

headers_are : (spelling : Spelling) (table : Table) (hs : List Header) → AreWritable spelling hs
    → ReadsHeaders table (flat_map (header_of spelling) hs) hs table
unfolding header_of
headers_are spelling table [] can = (refl, refl)
headers_are spelling table (h ∷ hs) can = (
  header_of spelling h,
  flat_map (header_of spelling) hs,
  table,
  refl,
  represented spelling table h (index_from (same_header h) 1 static_headers) refl can.0.0 can.0.1,
  headers_are spelling table hs can.1,
)

-- the size update in front empties any table
emptied : (table : Table) → resized table 0 ≡ cleared
emptied table = ap (λ (es : List Header). record { entries = es; maximum = 0 }) (fitting_zero table.entries)

pub block_is_read : (w : Writing) (hs : List Header) (table : Table) → AreWritable w.spelling hs → MayHave w.started table
    → Reads table (block_of w hs) hs cleared
unfolding block_of
block_is_read w hs table can may = from_start w.started w.spelling hs table can may
  where
    from_start : (started : Bool) (spelling : Spelling) (hs : List Header) (table : Table) → AreWritable spelling hs
        → MayHave started table → Reads table (opening started ++ flat_map (header_of spelling) hs) hs cleared
    from_start true spelling hs table can may = (
      [],
      subst (λ (t : Table). ReadsHeaders t (flat_map (header_of spelling) hs) hs cleared) (sym may)
          (headers_are spelling cleared hs can),
    )
    from_start false spelling hs table can may = (
      0 ∷ [],
      (
        32 ∷ [],
        flat_map (header_of spelling) hs,
        refl,
        IsInteger.within (lit< tt) refl,
        lit≤ tt,
        subst (λ (t : Table). ReadsHeaders t (flat_map (header_of spelling) hs) hs cleared) (sym (emptied table))
            (headers_are spelling cleared hs can),
      ),
    )

-- the block of a status
pub status_is_read : (started : Bool) (status : ℕ) (table : Table) → MayHave started table
    → Reads table (opening started ++ header_of Plain (status_header status)) (status_header status ∷ []) cleared
unfolding block_of
status_is_read started status table may =
    let w : Writing = record { spelling = Plain; started = started } in
    let all = block_is_read w (status_header status ∷ []) table ((lit< tt, lit< tt), tt) may in
    subst (λ (xs : List ℕ). Reads table (opening started ++ xs) (status_header status ∷ []) cleared)
    (append-nil (header_of Plain (status_header status))) all
