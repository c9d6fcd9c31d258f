-- A block that is refused is broken so, at the place that the fault tells.
use Rattle.std.proofs.Common.{◌≡◌, ℕ, zero, suc, ◌+◌, ◌-◌, ◌*◌, ◌%◌, ◌^◌, ◌<◌, ◌≤◌, ◌⊎◌, inl, inr, Bool, true, false, cond, eqb, ltb, leb, List, [], ◌∷◌, ◌++◌, length, take, drop, Option, Some, None, Result, Ok, Err, IfErr, refl, sym, ap, subst, ◌∙◌, arith, append_assoc, length-append}
use Rattle.std.specs.List.{AllByRecursion}
use Rattle.std.proofs.lemmas.Bool.{eqb-true, eqb-false, leb-true, leb-false, ltb-true, ltb-false, cases_lt, cases_Bool, and_from, le-leb, lt-ltb}
use Rattle.std.proofs.lemmas.List.{take-append-drop, length-take}
use Rattle.std.proofs.lemmas.Nat.{pow_pos}
use Rattle.hb_hpack.specs.declared.header.Header.{Header}
use Rattle.hb_hpack.specs.declared.fault.Stop.{Stop}
use Rattle.hb_hpack.specs.declared.fault.HpackWhy.{HpackWhy}
use Rattle.hb_hpack.specs.declared.fault.HpackWhy.TheVariants.{BadIndex, LongInteger, Truncated, BadSize, LateSize}
use Rattle.hb_hpack.specs.Outcome.{◌>>=◌}
use Rattle.hb_hpack.specs.Integer.{full, IsInteger}
use Rattle.hb_hpack.specs.Reader.{groups_from, integer_at, coded_at, string_at, Field, entry_or, name_at, literal_at, indexed_at, field_at, with_header, headers_at, is_update, update_at, updates_at, block_at}
use Rattle.hb_hpack.specs.HuffmanSteps.{text_of}
use Rattle.hb_hpack.specs.Huffman.{Spells}
use Rattle.hb_hpack.specs.Table.{Table, resized, entry_at}
use Rattle.hb_hpack.specs.Block.{Represents, ReadsHeaders, Reads}
use Rattle.hb_hpack.specs.Breaks.{number_of, BreaksInteger, integer_ends, integer_too_long, IsHuffmanBit, BreaksString, no_string, in_length, string_ends, no_text, BreaksStringBehind, BreaksName, in_index, no_entry, in_new, BreaksLiteral, in_name, in_value, BreaksHeader, in_indexed, no_header, in_entered, in_passed, in_never, BreaksUpdate, in_maximum, too_large, BreaksAt, in_update, in_header, late_update}
use Rattle.hb_hpack.proofs.Outcomes.{AreOctets, octets_back}
use Rattle.hb_hpack.proofs.Groups.{TakesInteger, integer_take, integer_some}
use Rattle.hb_hpack.proofs.Reading.{spelled_is_read}
use Rattle.hb_hpack.proofs.Representations.{name_take, field_take}
use Rattle.hb_hpack.proofs.Blocks.{field_shorter, update_bits, update_take, update_leaves, none_in_none, no_updates, one_update}

-- ---- steps that fail

pub err_bind : {A B : Type 0} (r : Result A Stop) (f : A → Result B Stop) (P : Stop → Type 0) → IfErr r P
    → ((x : A) → r ≡ Ok x → IfErr (f x) P) → IfErr (r >>= f) P
err_bind (Ok x) f P h k = k x refl
err_bind (Err d) f P h k = h

pub err_cond : {A : Type 0} (t : Bool) (x y : Result A Stop) (P : Stop → Type 0) → (t ≡ true → IfErr x P) → (t ≡ false → IfErr y P)
    → IfErr (cond t x y) P
err_cond true x y P p q = p refl
err_cond false x y P p q = q refl

pub err_weaker : {A : Type 0} (r : Result A Stop) (P Q : Stop → Type 0) → ((d : Stop) → P d → Q d) → IfErr r P → IfErr r Q
err_weaker (Ok x) P Q f h = tt
err_weaker (Err d) P Q f h = f d h

-- the fault's place in these bytes, at which they are broken
abbrev pub Stopped : (ℕ → HpackWhy → Type 0) → List ℕ → Stop → Type 0
Stopped Breaks bytes s = (at : ℕ) × (at + s.left ≡ length bytes) × Breaks at s.why

-- the same, behind a front of the bytes
pub stopped_behind : (P Q : ℕ → HpackWhy → Type 0) (bytes front rest : List ℕ) (s : Stop) → bytes ≡ front ++ rest
    → ((at : ℕ) → P at s.why → Q (length front + at) s.why)
    → Stopped P rest s → Stopped Q bytes s
stopped_behind P Q bytes front rest s parts f h =
    let len : length bytes ≡ length front + length rest = ap (λ (xs : List ℕ). length xs) parts ∙ length-append front rest in
    let place = h.1 in
    (length front + h.0, omega arith, f h.0 h.2)

-- ---- integers

-- groups that are refused, from the one of this weight on, behind groups that make n
data BreaksGroups (left weight n : ℕ) (bytes : List ℕ) (s : Stop) : Type 0 where
  ends : AllByRecursion (λ b. 128 ≤ b) bytes → length bytes ≤ left → n + weight * number_of bytes < 2 ^ 32 → s.left ≡ 0 → s.why ≡ Truncated
      → BreaksGroups left weight n bytes s
  too_long : (groups : List ℕ) (group : ℕ) (behind : List ℕ) → bytes ≡ groups ++ group ∷ behind → AllByRecursion (λ b. 128 ≤ b) groups
      → length groups ≤ left
      → n + weight * number_of groups < 2 ^ 32 → (length groups ≡ left) ⊎ (2 ^ 32 ≤ n + weight * number_of (groups ++ group ∷ []))
      → s.left ≡ suc (length behind) → s.why ≡ LongInteger → BreaksGroups left weight n bytes s

group_before : (left weight n b : ℕ) (bytes : List ℕ) (s : Stop) → 128 ≤ b
    → BreaksGroups left (128 * weight) (n + b % 128 * weight) bytes s → BreaksGroups (suc left) weight n (b ∷ bytes) s
group_before left weight n b bytes s le (ends on few small at why) = ends (le, on) (omega arith) (omega arith) at why
group_before left weight n b bytes s le (too_long groups group behind parts on few small over at why) =
    too_long (b ∷ groups) group behind (ap (λ (xs : List ℕ). b ∷ xs) parts) (le, on) (omega arith) (omega arith) (grown over) at why
  where
    grown : (length groups ≡ left) ⊎ (2 ^ 32 ≤ n + b % 128 * weight + 128 * weight * number_of (groups ++ group ∷ []))
        → (suc (length groups) ≡ suc left) ⊎ (2 ^ 32 ≤ n + weight * (b % 128 + 128 * number_of (groups ++ group ∷ [])))
    grown (inl same) = inl (omega arith)
    grown (inr large) = inr (omega arith)

groups_broken : (bytes : List ℕ) (left weight n : ℕ) → n < 2 ^ 32
    → IfErr (groups_from left weight n bytes) (λ s. BreaksGroups left weight n bytes s)
unfolding groups_from
groups_broken [] left weight n lt = ends tt (omega arith) (omega arith) refl refl
groups_broken (b ∷ bs) zero weight n lt = too_long [] b bs refl tt (omega arith) (omega arith) (inl refl) refl refl
groups_broken (b ∷ bs) (suc left) weight n lt =
    err_cond (ltb (n + b % 128 * weight) (2 ^ 32)) _ _ _
    (λ fits. err_cond (ltb b 128) _ _ _ (λ last. tt)
    (λ more. err_weaker (groups_from left (128 * weight) (n + b % 128 * weight) bs) _ _
    (λ s h. group_before left weight n b bs s (ltb-false b 128 more) h)
    (groups_broken bs left (128 * weight) (n + b % 128 * weight) (ltb-true _ _ fits))))
    (λ over. let large = ltb-false (n + b % 128 * weight) (2 ^ 32) over in
    too_long [] b bs refl tt (omega arith) (omega arith) (inr (omega arith)) refl refl)

integer_of_groups : (prefix flag b : ℕ) (bytes : List ℕ) (s : Stop) → b ≡ flag + full prefix → BreaksGroups 5 1 (full prefix) bytes s
    → Stopped (BreaksInteger prefix flag (b ∷ bytes)) (b ∷ bytes) s
integer_of_groups prefix flag b bytes s first (ends on few small at why) = (
  suc (length bytes),
  omega arith,
  integer_ends bytes (ap (λ x. x ∷ bytes) first)
      (record { on = on; few = few; small = omega arith }) refl why,
)
integer_of_groups prefix flag b bytes s first (too_long groups group behind parts on few small over at why) =
    let len : length bytes ≡ length groups + suc (length behind) = ap (λ (xs : List ℕ). length xs) parts
    ∙ length-append groups (group ∷ behind) in
    let whole : b ∷ bytes ≡ (flag + full prefix) ∷ (groups ++ group ∷ behind) = ap (λ x. x ∷ bytes) first
    ∙ ap (λ (xs : List ℕ). (flag + full prefix) ∷ xs) parts in (
      1 + length groups,
      omega arith,
      integer_too_long groups group behind whole (record { on = on; few = few; small = omega arith })
          (same over) refl why,
    )
  where
    same : (length groups ≡ 5) ⊎ (2 ^ 32 ≤ full prefix + 1 * number_of (groups ++ group ∷ []))
        → (length groups ≡ 5) ⊎ (2 ^ 32 ≤ full prefix + number_of (groups ++ group ∷ []))
    same (inl e) = inl e
    same (inr le) = inr (omega arith)

pub integer_broken : (prefix flag b : ℕ) (bytes : List ℕ) → full prefix < 2 ^ 32 → b ≡ flag + b % 2 ^ prefix
    → IfErr (integer_at prefix (b ∷ bytes)) (λ s. Stopped (BreaksInteger prefix flag (b ∷ bytes)) (b ∷ bytes) s)
unfolding integer_at
integer_broken prefix flag b bytes small flag_is =
    err_cond (ltb (b % 2 ^ prefix) (full prefix)) _ _ _ (λ within. tt)
    (λ beyond.
    let le : full prefix ≤ b % 2 ^ prefix = ltb-false _ _ beyond in
    let below : b % 2 ^ prefix < 2 ^ prefix = omega (arith, pow_pos prefix) in
    let low : b % 2 ^ prefix ≡ full prefix = omega arith in
    let first : b ≡ flag + full prefix = flag_is ∙ ap (λ x. flag + x) low in
    err_weaker (groups_from 5 1 (full prefix) bytes) _ _ (λ s h. integer_of_groups prefix flag b bytes s first h)
    (groups_broken bytes 5 1 (full prefix) small))

-- ---- strings

no_spelling : (data' : List ℕ) → text_of data' ≡ None → (text : List ℕ) → Spells data' text → ⊥
no_spelling data' none text spells = some_not_none text (sym (spelled_is_read data' text spells) ∙ none)
  where
    some_not_none : (text : List ℕ) → Some text ≡ None → ⊥
    some_not_none text e = cc

-- the literal whose first byte says how it is spelled, behind its length
string_behind : (bit b : ℕ) (bs : List ℕ) (n : ℕ) (after : List ℕ) → IsHuffmanBit bit → TakesInteger 7 bit (b ∷ bs) n after
    → ltb (length after) n ≡ true
    → Stopped (BreaksString (b ∷ bs)) (b ∷ bs) (record { left = 0; why = Truncated })
string_behind bit b bs n after is i short =
    (suc (length bs), omega arith, string_ends bit n i.front after is i.parts i.is (ltb-true _ _ short) refl refl)

coded_broken : (b : ℕ) (bs : List ℕ) (n : ℕ) (after : List ℕ) → TakesInteger 7 128 (b ∷ bs) n after → ltb (length after) n ≡ false
    → IfErr (coded_at (length (b ∷ bs)) (text_of (take n after)) (drop n after)) (λ s. Stopped (BreaksString (b ∷ bs)) (b ∷ bs) s)
coded_broken b bs n after i enough = by_text (text_of (take n after)) refl
  where
    by_text : (o : Option (List ℕ)) → text_of (take n after) ≡ o
        → IfErr (coded_at (length (b ∷ bs)) o (drop n after)) (λ s. Stopped (BreaksString (b ∷ bs)) (b ∷ bs) s)
    by_text (Some text) e = tt
    by_text None e =
        let fits : n ≤ length after = ltb-false _ _ enough in
        let len : length (take n after) ≡ n = omega (arith, length-take n after) in
        let is : IsInteger 7 128 (length (take n after)) i.front = subst (λ k. IsInteger 7 128 k i.front) (sym len) i.is in
        let parts : b ∷ bs ≡ i.front ++ (take n after ++ drop n after) = i.parts
        ∙ ap (λ (xs : List ℕ). i.front ++ xs) (sym (take-append-drop n after)) in
        (0, omega arith, no_text i.front (take n after) (drop n after) parts is (no_spelling (take n after) e) refl refl)

-- an octet has its Huffman bit
pub huffman_bit : (b : ℕ) → b < 256 → (bit : ℕ) × IsHuffmanBit bit × (b ≡ bit + b % 2 ^ 7)
huffman_bit b octet = elim (cases_lt b 128) [ inl small ↦ (0, inl refl, omega arith) | inr large ↦ (128, inr refl, omega arith) ]

pub string_broken : (bytes : List ℕ) → AreOctets bytes → IfErr (string_at bytes) (λ s. Stopped (BreaksString bytes) bytes s)
unfolding string_at
string_broken [] o = (0, refl, no_string refl refl refl)
string_broken (b ∷ bs) o =
    let bit = huffman_bit b o.0 in
    err_bind (integer_at 7 (b ∷ bs)) _ _
    (err_weaker (integer_at 7 (b ∷ bs)) _ _ (λ s h. (h.0, h.1, in_length bit.0 bit.1 h.2))
    (integer_broken 7 bit.0 b bs (omega arith) bit.2))
    (λ n e. err_cond (ltb (length n.1) n.0) _ _ _
    (λ short. string_behind bit.0 b bs n.0 n.1 bit.1 (integer_take 7 bit.0 b bs n.0 n.1 o bit.2 e) short)
    (λ enough. err_cond (ltb b 128) _ _ _ (λ plain. tt)
    (λ coded.
    let large = ltb-false b 128 coded in
    let octet = o.0 in
    coded_broken b bs n.0 n.1 (integer_take 7 128 b bs n.0 n.1 o (omega arith) e) enough)))

-- ---- names and literals

-- ---- names and literals

-- a fault at the last byte of an integer
last_byte : (bytes front rest : List ℕ) (s : Stop) → bytes ≡ front ++ rest → 0 < length front → s.left ≡ length rest + 1
    → (at : ℕ) × (at + s.left ≡ length bytes) × (at + 1 ≡ length front)
last_byte bytes front rest s parts some left =
    let len : length bytes ≡ length front + length rest = ap (λ (xs : List ℕ). length xs) parts ∙ length-append front rest in
    let one : length front - 1 + 1 ≡ length front = omega arith in
    (length front - 1, omega arith, one)

pub front_some : (prefix flag n : ℕ) (front : List ℕ) → IsInteger prefix flag n front → 0 < length front
front_some prefix flag n front is = let f = integer_some prefix flag n front is in let e : length front ≡ suc (length f.1) =
    ap (λ (xs : List ℕ). length xs) f.2 in omega arith

-- an index without an entry
entry_broken : (o : Option Header) (rest : List ℕ)
    → IfErr (entry_or o rest) (λ s. (o ≡ None) × (s.left ≡ length rest + 1) × (s.why ≡ BadIndex))
entry_broken None rest = (refl, refl, refl)
entry_broken (Some h) rest = tt

string_is_behind : (bytes front rest : List ℕ) (s : Stop) (Q : ℕ → HpackWhy → Type 0) → bytes ≡ front ++ rest
    → ((at : ℕ) → BreaksStringBehind front rest at s.why → Q at s.why)
    → Stopped (BreaksString rest) rest s → Stopped Q bytes s
string_is_behind bytes front rest s Q parts f h =
    stopped_behind (BreaksString rest) Q bytes front rest s parts (λ at broken. f (length front + at) (at, broken, refl)) h

pub name_broken : (table : Table) (prefix flag b : ℕ) (bytes : List ℕ) → full prefix < 2 ^ 32 → AreOctets (b ∷ bytes)
    → b ≡ flag + b % 2 ^ prefix
    → IfErr (name_at table prefix (b ∷ bytes)) (λ s. Stopped (BreaksName table prefix flag (b ∷ bytes)) (b ∷ bytes) s)
unfolding name_at
name_broken table prefix flag b bytes small o flag_is =
    err_bind (integer_at prefix (b ∷ bytes)) _ _
    (err_weaker (integer_at prefix (b ∷ bytes)) _ _ (λ s h. (h.0, h.1, in_index h.2)) (integer_broken prefix flag b bytes small flag_is))
    (λ n e. let i = integer_take prefix flag b bytes n.0 n.1 o flag_is e in
    err_cond (eqb n.0 0) _ _ _
    (λ zero_is. let is : IsInteger prefix flag 0 i.front = subst (λ k. IsInteger prefix flag k i.front) (eqb-true _ _ zero_is) i.is in
    err_weaker (string_at n.1) _ _
    (λ s h. string_is_behind (b ∷ bytes) i.front n.1 s (BreaksName table prefix flag (b ∷ bytes)) i.parts
    (λ at broken. in_new i.front n.1 i.parts is broken) h)
    (string_broken n.1 (octets_back i.front n.1 (subst AreOctets i.parts o))))
    (λ named. let some = eqb-false n.0 0 named in
    err_bind (entry_or (entry_at table n.0) n.1) _ _
    (err_weaker (entry_or (entry_at table n.0) n.1) _ _
    (λ s h. let p = last_byte (b ∷ bytes) i.front n.1 s i.parts (front_some prefix flag n.0 i.front i.is) h.1 in
    (p.0, p.1, no_entry n.0 i.front n.1 i.parts i.is (omega arith) h.0 p.2 h.2))
    (entry_broken (entry_at table n.0) n.1))
    (λ h e. tt)))

pub literal_broken : (table : Table) (prefix flag b : ℕ) (bytes : List ℕ) → full prefix < 2 ^ 32 → AreOctets (b ∷ bytes)
    → b ≡ flag + b % 2 ^ prefix
    → IfErr (literal_at table prefix (b ∷ bytes)) (λ s. Stopped (BreaksLiteral table prefix flag (b ∷ bytes)) (b ∷ bytes) s)
unfolding literal_at
literal_broken table prefix flag b bytes small o flag_is =
    err_bind (name_at table prefix (b ∷ bytes)) _ _
    (err_weaker (name_at table prefix (b ∷ bytes)) _ _ (λ s h. (h.0, h.1, in_name h.2))
    (name_broken table prefix flag b bytes small o flag_is))
    (λ name e. let n = name_take table prefix flag b bytes name.0 name.1 o flag_is e in
    err_bind (string_at name.1) _ _
    (err_weaker (string_at name.1) _ _
    (λ s h. string_is_behind (b ∷ bytes) n.front name.1 s (BreaksLiteral table prefix flag (b ∷ bytes)) n.parts
    (λ at broken. in_value name.0 n.front name.1 n.parts n.is broken) h)
    (string_broken name.1 (octets_back n.front name.1 (subst AreOctets n.parts o))))
    (λ value e. tt))

-- ---- headers

-- Where a header should be, it is broken, or a size update is there.
pub data BreaksField (table : Table) (bytes : List ℕ) (at : ℕ) (why : HpackWhy) : Type 0 where
  is_header : BreaksHeader table bytes at why → BreaksField table bytes at why
  is_late : (b : ℕ) (behind : List ℕ) → bytes ≡ b ∷ behind → 32 ≤ b → b < 64 → at ≡ 0 → why ≡ LateSize → BreaksField table bytes at why

indexed_broken : (table : Table) (b : ℕ) (bytes : List ℕ) → AreOctets (b ∷ bytes) → 128 ≤ b
    → IfErr (indexed_at table (b ∷ bytes)) (λ s. Stopped (BreaksHeader table (b ∷ bytes)) (b ∷ bytes) s)
unfolding indexed_at
indexed_broken table b bytes o above =
    let octet = o.0 in
    err_bind (integer_at 7 (b ∷ bytes)) _ _
    (err_weaker (integer_at 7 (b ∷ bytes)) _ _ (λ s h. (h.0, h.1, in_indexed h.2))
    (integer_broken 7 128 b bytes (omega arith) (omega arith)))
    (λ n e. let i = integer_take 7 128 b bytes n.0 n.1 o (omega arith) e in
    err_bind (entry_or (entry_at table n.0) n.1) _ _
    (err_weaker (entry_or (entry_at table n.0) n.1) _ _
    (λ s h. let p = last_byte (b ∷ bytes) i.front n.1 s i.parts (front_some 7 128 n.0 i.front i.is) h.1 in
    (p.0, p.1, no_header n.0 i.front n.1 i.parts i.is h.0 p.2 h.2))
    (entry_broken (entry_at table n.0) n.1))
    (λ h e. tt))

literal_field_broken : (table : Table) (prefix flag b : ℕ) (bytes : List ℕ) (f : Header × List ℕ → Result Field Stop)
    → full prefix < 2 ^ 32 → AreOctets (b ∷ bytes) → b ≡ flag + b % 2 ^ prefix
    → ((l : Header × List ℕ) → IfErr (f l) (λ s. ⊥))
    → ((at : ℕ) (why : HpackWhy) → BreaksLiteral table prefix flag (b ∷ bytes) at why → BreaksHeader table (b ∷ bytes) at why)
    → IfErr (literal_at table prefix (b ∷ bytes) >>= f) (λ s. Stopped (BreaksField table (b ∷ bytes)) (b ∷ bytes) s)
literal_field_broken table prefix flag b bytes f small o flag_is never so =
    err_bind (literal_at table prefix (b ∷ bytes)) f _
    (err_weaker (literal_at table prefix (b ∷ bytes)) _ _ (λ s h. (h.0, h.1, is_header (so h.0 s.why h.2)))
    (literal_broken table prefix flag b bytes small o flag_is))
    (λ l e. err_weaker (f l) _ _ (λ s h. absurd h) (never l))

pub field_broken : (table : Table) (b : ℕ) (bytes : List ℕ) → AreOctets (b ∷ bytes)
    → IfErr (field_at table (b ∷ bytes)) (λ s. Stopped (BreaksField table (b ∷ bytes)) (b ∷ bytes) s)
unfolding field_at
field_broken table b bytes o =
    let octet = o.0 in
    err_cond (leb 128 b) _ _ _
    (λ indexed. err_bind (indexed_at table (b ∷ bytes)) _ _
    (err_weaker (indexed_at table (b ∷ bytes)) _ _ (λ s h. (h.0, h.1, is_header h.2))
    (indexed_broken table b bytes o (leb-true 128 b indexed))) (λ l e. tt))
    (λ n128. let below = leb-false 128 b n128 in
    err_cond (leb 64 b) _ _ _
    (λ entered. let above = leb-true 64 b entered in
    literal_field_broken table 6 64 b bytes _ (omega arith) o (omega arith) (λ l. tt) (λ at why h. in_entered h))
    (λ n64. let below_64 = leb-false 64 b n64 in
    err_cond (leb 32 b) _ _ _
    (λ late. let above = leb-true 32 b late in (0, omega arith, is_late b bytes refl above (omega arith) refl refl))
    (λ n32. let below_32 = leb-false 32 b n32 in
    elim (cases_lt b 16) [
      | inl low ↦ literal_field_broken table 4 0 b bytes _ (omega arith) o (omega arith) (λ l. tt) (λ at why h. in_passed h)
      | inr high ↦ literal_field_broken table 4 16 b bytes _ (omega arith) o (omega arith) (λ l. tt) (λ at why h. in_never h)
    ])))

-- Headers are read up to a place, and there the next one is broken.
pub record BreaksHeaders (table : Table) (bytes : List ℕ) (at : ℕ) (why : HpackWhy) : Type 0 where
  pub front : List ℕ
  pub behind : List ℕ
  pub headers : List Header
  pub mid : Table
  pub inner : ℕ
  pub parts : bytes ≡ front ++ behind
  pub read : ReadsHeaders table front headers mid
  pub broken : BreaksField mid behind inner why
  pub place : at ≡ length front + inner

header_before : (table mid : Table) (bytes front rest : List ℕ) (h : Header) (at : ℕ) (why : HpackWhy) → bytes ≡ front ++ rest
    → Represents table front h mid → BreaksHeaders mid rest at why
    → BreaksHeaders table bytes (length front + at) why
header_before table mid bytes front rest h at why parts is b =
    let len : length (front ++ b.front) ≡ length front + length b.front = length-append front b.front in
    let place = b.place in
    record {
      front = front ++ b.front;
      behind = b.behind;
      headers = h ∷ b.headers;
      mid = b.mid;
      inner = b.inner;
      parts = parts ∙ ap (λ (xs : List ℕ). front ++ xs) b.parts ∙ sym (append_assoc front b.front b.behind);
      read = (front, b.front, mid, refl, is, b.read);
      broken = b.broken;
      place = omega arith;
    }

err_behind : (h : Header) (r : Result (List Header × Table) Stop) (P : Stop → Type 0) → IfErr r P → IfErr (with_header h r) P
err_behind h (Ok x) P p = tt
err_behind h (Err s) P p = p

pub headers_broken : (most : ℕ) (table : Table) (bytes : List ℕ) → AreOctets bytes → length bytes ≤ most
    → IfErr (headers_at most table bytes) (λ s. Stopped (BreaksHeaders table bytes) bytes s)
unfolding headers_at
headers_broken zero table [] o le = tt
headers_broken (suc most) table [] o le = tt
headers_broken zero table (b ∷ bytes) o le = absurd (omega arith)
headers_broken (suc most) table (b ∷ bytes) o le =
    err_bind (field_at table (b ∷ bytes)) _ _
    (err_weaker (field_at table (b ∷ bytes)) _ _
    (λ s h. (
      h.0,
      h.1,
      record {
        front = [];
        behind = b ∷ bytes;
        headers = [];
        mid = table;
        inner = h.0;
        parts = refl;
        read =
            (refl, refl);
        broken = h.2;
        place = omega arith;
      },
    ))
    (field_broken table b bytes o))
    (λ f e. let t = field_take table b bytes f o e in
    let shorter = field_shorter table (b ∷ bytes) f o e in
    err_behind f.header (headers_at most f.next f.rest) _
    (err_weaker (headers_at most f.next f.rest) _ _
    (λ s h. stopped_behind (BreaksHeaders f.next f.rest) (BreaksHeaders table (b ∷ bytes)) (b ∷ bytes) t.front f.rest s t.parts
    (λ at broken. header_before table f.next (b ∷ bytes) t.front f.rest f.header at s.why t.parts t.is broken) h)
    (headers_broken most f.next f.rest (octets_back t.front f.rest (subst AreOctets t.parts o)) (omega arith))))

-- ---- size updates

pub update_broken : (bytes : List ℕ) → AreOctets bytes → is_update bytes ≡ true
    → IfErr (update_at bytes) (λ s. Stopped (BreaksUpdate bytes) bytes s)
unfolding update_at
update_broken [] o update = absurd cc
update_broken (b ∷ bytes) o update =
    let bits = update_bits b update in
    let above = bits.0 in
    let below = bits.1 in
    err_bind (integer_at 5 (b ∷ bytes)) _ _
    (err_weaker (integer_at 5 (b ∷ bytes)) _ _ (λ s h. (h.0, h.1, in_maximum h.2))
    (integer_broken 5 32 b bytes (omega arith) (omega arith)))
    (λ n e. let i = integer_take 5 32 b bytes n.0 n.1 o (omega arith) e in
    err_cond (leb n.0 4096) _ _ _ (λ fits. tt)
    (λ over. let large = leb-false n.0 4096 over in
    let p = last_byte (b ∷ bytes) i.front n.1 (record { left = length n.1 + 1; why = BadSize }) i.parts
    (front_some 5 32 n.0 i.front i.is) refl in
    (p.0, p.1, too_large n.0 i.front n.1 i.parts i.is large p.2 refl)))

update_before : (table : Table) (n : ℕ) (bytes front rest : List ℕ) (at : ℕ) (why : HpackWhy) → bytes ≡ front ++ rest
    → IsInteger 5 32 n front → n ≤ 4096 → BreaksAt (resized table n) rest at why
    → BreaksAt table bytes (length front + at) why
update_before table n bytes front rest at why parts is small broken = elim broken [
  | in_update ups behind mid inner cut read b place ↦
      let len = length-append front ups in
      in_update (front ++ ups) behind mid inner (regroup ups behind cut) (before ups [] mid read) b (omega arith)
  | in_header ups behind hs mid inner cut read b place ↦
      let len = length-append front ups in
      in_header (front ++ ups) behind hs mid inner (regroup ups behind cut) (before ups hs mid read) b (omega arith)
  | late_update ups b behind h hs mid cut read low high place why_is ↦
      let len = length-append front ups in
      late_update (front ++ ups) b behind h hs mid (regroup ups (b ∷ behind) cut) (before ups (h ∷ hs) mid read) low high
      (omega arith) why_is
]
  where
    regroup : (ups behind : List ℕ) → rest ≡ ups ++ behind → bytes ≡ (front ++ ups) ++ behind
    regroup ups behind cut = parts ∙ ap (λ (xs : List ℕ). front ++ xs) cut ∙ sym (append_assoc front ups behind)

    before : (ups : List ℕ) (hs : List Header) (mid : Table) → Reads (resized table n) ups hs mid → Reads table (front ++ ups) hs mid
    before ups hs mid read = (n ∷ read.0, (front, ups, refl, is, small, read.1))

no_both : (t : Bool) → t ≡ true → t ≡ false → ⊥
no_both t p q = cc

-- headers that are broken behind no size update
header_is_broken : (table : Table) (bytes : List ℕ) (at : ℕ) (why : HpackWhy) → is_update bytes ≡ false → BreaksHeaders table bytes at why
    → BreaksAt table bytes at why
header_is_broken table bytes at why none b = by_field b.inner b.headers b.broken b.read b.place
  where
    by_field : (inner : ℕ) (hs : List Header) → BreaksField b.mid b.behind inner why → ReadsHeaders table b.front hs b.mid
        → at ≡ length b.front + inner → BreaksAt table bytes at why
    by_field inner hs (is_header broken) read place = in_header b.front b.behind hs b.mid inner b.parts ([], read) broken place
    by_field inner [] (is_late first behind is low high at_0 why_is) read place =
        let whole : bytes ≡ first ∷ behind = b.parts ∙ ap (λ (xs : List ℕ). xs ++ b.behind) read.0 ∙ is in
        let update : is_update (first ∷ behind) ≡ true = and_from _ _ (le-leb 32 first low) (lt-ltb first 64 high) in
        absurd (no_both (is_update bytes) (ap is_update whole ∙ update) none)
    by_field inner (h ∷ hs) (is_late first behind is low high at_0 why_is) read place =
        late_update b.front first behind h hs b.mid (b.parts ∙ ap (λ (xs : List ℕ). b.front ++ xs) is) ([], read) low high
        (omega arith) why_is

-- ---- blocks

-- the updates in front, and what is read behind them
abbrev pub read_behind : ℕ → Table → List ℕ → Result (List Header × Table) Stop
read_behind most table bytes = updates_at most table bytes >>= λ u. headers_at (length u.1) u.0 u.1

pub read_behind_none : (most : ℕ) (table : Table) (bytes : List ℕ) → is_update bytes ≡ false
    → read_behind most table bytes ≡ headers_at (length bytes) table bytes
read_behind_none most table bytes none = rw (no_updates most table bytes none) refl

pub read_behind_one : (most : ℕ) (table : Table) (bytes : List ℕ) (r : Result (ℕ × List ℕ) Stop) → is_update bytes ≡ true
    → update_at bytes ≡ r
    → read_behind (suc most) table bytes ≡ (r >>= λ n. read_behind most (resized table n.0) n.1)
read_behind_one most table bytes r update e = rw (one_update most table bytes update, e) (regroup r)
  where
    regroup : (r : Result (ℕ × List ℕ) Stop)
        → ((r >>= λ n. updates_at most (resized table n.0) n.1) >>= λ u. headers_at (length u.1) u.0 u.1) ≡
        (r >>= λ n. read_behind most (resized table n.0) n.1)
    regroup (Ok n) = refl
    regroup (Err s) = refl

no_update_broken : (most : ℕ) (table : Table) (bytes : List ℕ) → AreOctets bytes → is_update bytes ≡ false
    → IfErr (read_behind most table bytes) (λ s. Stopped (BreaksAt table bytes) bytes s)
no_update_broken most table bytes o none =
    subst (λ (r : Result (List Header × Table) Stop). IfErr r (λ s. Stopped (BreaksAt table bytes) bytes s))
    (sym (read_behind_none most table bytes none))
    (err_weaker (headers_at (length bytes) table bytes) _ _ (λ s h. (h.0, h.1, header_is_broken table bytes h.0 s.why none h.2))
    (headers_broken (length bytes) table bytes o (omega arith)))

behind_broken : (most : ℕ) (table : Table) (bytes : List ℕ) → AreOctets bytes → length bytes ≤ most
    → IfErr (read_behind most table bytes) (λ s. Stopped (BreaksAt table bytes) bytes s)
behind_broken zero table bytes o le = no_update_broken zero table bytes o (none_in_none bytes le)
behind_broken (suc most) table bytes o le =
    elim (cases_Bool (is_update bytes)) [
      | inr none ↦ no_update_broken (suc most) table bytes o none
      | inl update ↦
          subst (λ (r : Result (List Header × Table) Stop). IfErr r (λ s. Stopped (BreaksAt table bytes) bytes s))
          (sym (read_behind_one most table bytes (update_at bytes) update refl))
          (err_bind (update_at bytes) _ _
          (err_weaker (update_at bytes) _ _ (λ s h. (h.0, h.1, in_update [] bytes table h.0 refl ([], (refl, refl)) h.2 (omega arith)))
          (update_broken bytes o update))
          (λ n e. let t = update_take bytes n.0 n.1 o update e in
          let leaves = update_leaves bytes n.0 n.1 t o in
          let shorter = leaves.1 in
          err_weaker (read_behind most (resized table n.0) n.1) _ _
          (λ s h. stopped_behind (BreaksAt (resized table n.0) n.1) (BreaksAt table bytes) bytes t.front n.1 s t.parts
          (λ at broken. update_before table n.0 bytes t.front n.1 at s.why t.parts t.is t.small broken) h)
          (behind_broken most (resized table n.0) n.1 leaves.0 (omega arith))))
    ]

-- a block that is refused is broken
pub block_broken : (table : Table) (block : List ℕ) (s : Stop) → AreOctets block → block_at table block ≡ Err s
    → Stopped (BreaksAt table block) block s
unfolding block_at
block_broken table block s o e = let broken = behind_broken (length block) table block o (omega arith) in rw e at broken
