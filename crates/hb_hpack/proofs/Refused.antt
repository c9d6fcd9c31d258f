-- A block that is broken at a place is refused with that fault there.
use Rattle.std.proofs.Common.{◌≡◌, ℕ, zero, suc, ◌+◌, ◌-◌, ◌*◌, ◌%◌, ◌^◌, ◌<◌, ◌≤◌, ◌⊎◌, inl, inr, true, false, eqb, List, [], ◌∷◌, ◌++◌, length, Option, Some, None, Result, Ok, Err, refl, sym, ap, ◌∙◌, arith, append_assoc, length-append}
use Rattle.std.specs.List.{AllByRecursion}
use Rattle.std.proofs.lemmas.Bool.{ne_eqb, le-leb, lt-leb, lt-ltb, le-ltb, and_from}
use Rattle.std.proofs.lemmas.List.{take_at}
use Rattle.std.proofs.lemmas.Nat.{pow_pos}
use Rattle.hb_hpack.specs.declared.header.Header.{Header}
use Rattle.hb_hpack.specs.declared.fault.Stop.{Stop}
use Rattle.hb_hpack.specs.declared.fault.HpackWhy.{HpackWhy}
use Rattle.hb_hpack.specs.declared.fault.HpackWhy.TheVariants.{BadIndex, LongInteger, Truncated, BadHuffman, BadSize, LateSize}
use Rattle.hb_hpack.specs.Outcome.{stop, ◌>>=◌}
use Rattle.hb_hpack.specs.Integer.{full, IsInteger}
use Rattle.hb_hpack.specs.Reader.{groups_from, integer_at, string_at, Field, field, name_at, literal_at, indexed_at, field_at, headers_at, is_update, update_at, block_at}
use Rattle.hb_hpack.specs.HuffmanSteps.{text_of}
use Rattle.hb_hpack.specs.Huffman.{Spells}
use Rattle.hb_hpack.specs.Table.{Table, resized}
use Rattle.hb_hpack.specs.Block.{ReadsHeaders, ReadsBehind, Reads}
use Rattle.hb_hpack.specs.Breaks.{number_of, BreaksInteger, integer_ends, integer_too_long, IsHuffmanBit, BreaksString, no_string, in_length, string_ends, no_text, BreaksName, in_index, no_entry, in_new, BreaksLiteral, in_name, in_value, BreaksHeader, in_indexed, no_header, in_entered, in_passed, in_never, BreaksUpdate, in_maximum, too_large, BreaksAt, in_update, in_header, late_update}
use Rattle.hb_hpack.proofs.Integers.{integer_beyond}
use Rattle.hb_hpack.proofs.Groups.{low_of, integer_again}
use Rattle.hb_hpack.proofs.Strings.{string_first}
use Rattle.hb_hpack.proofs.Reading.{read_is_spelled}
use Rattle.hb_hpack.proofs.Representations.{Begins, integer_begins, name_begins, name_again, field_again, field_indexed, field_entered, field_passed, represents_some, represents_begins}
use Rattle.hb_hpack.proofs.Blocks.{no_update_first, update_again}
use Rattle.hb_hpack.proofs.Broken.{front_some, read_behind, read_behind_none, read_behind_one}

-- the bytes are refused with this fault, whose place is counted from their front
abbrev pub Refused : {A : Type 0} → Result A Stop → List ℕ → ℕ → HpackWhy → Type 0
Refused r bytes at why = (left : ℕ) × (at + left ≡ length bytes) × (r ≡ Err (stop left why))

-- a step that passes on the fault of bytes behind a front
refused_behind : {A B : Type 0} (r : Result A Stop) (q : Result B Stop) (bytes front behind : List ℕ) (at inner : ℕ) (why : HpackWhy)
    → bytes ≡ front ++ behind → at ≡ length front + inner
    → ((s : Stop) → r ≡ Err s → q ≡ Err s) → Refused r behind inner why → Refused q bytes at why
refused_behind r q bytes front behind at inner why parts place f h =
    let len : length bytes ≡ length front + length behind = ap (λ (xs : List ℕ). length xs) parts ∙ length-append front behind in
    let whole = h.1 in
    (h.0, omega arith, f (stop h.0 why) h.2)

refused_so : {A B : Type 0} (r : Result A Stop) (q : Result B Stop) (bytes : List ℕ) (at : ℕ) (why : HpackWhy)
    → ((s : Stop) → r ≡ Err s → q ≡ Err s) → Refused r bytes at why → Refused q bytes at why
refused_so r q bytes at why f h = (h.0, h.1, f (stop h.0 why) h.2)

abbrev fault : (A : Type 0) → ℕ → HpackWhy → Result A Stop
fault A left why = Err (stop left why)

-- a fault whose kind has another name
told : {A : Type 0} (r : Result A Stop) (left : ℕ) (why w : HpackWhy) → why ≡ w → r ≡ Err (stop left w) → r ≡ Err (stop left why)
told r left why w is e = e ∙ ap (λ (x : HpackWhy). fault _ left x) (sym is)

-- ---- integers

ends_refused : (bytes : List ℕ) (left weight n : ℕ) → AllByRecursion (λ b. 128 ≤ b) bytes → length bytes ≤ left
    → n + weight * number_of bytes < 2 ^ 32
    → groups_from left weight n bytes ≡ Err (stop 0 Truncated)
unfolding groups_from
ends_refused [] left weight n on few small = refl
ends_refused (b ∷ bs) zero weight n on few small = absurd (omega arith)
ends_refused (b ∷ bs) (suc left) weight n on few small =
    rw (lt-ltb (n + b % 128 * weight) (2 ^ 32) (omega arith), le-ltb b 128 on.0, groups_from)
    (ends_refused bs left (128 * weight) (n + b % 128 * weight) on.1 (omega arith) (omega arith))

long_refused : (groups : List ℕ) (group : ℕ) (behind : List ℕ) (left weight n : ℕ) → AllByRecursion (λ b. 128 ≤ b) groups
    → length groups ≤ left → n + weight * number_of groups < 2 ^ 32
    → (length groups ≡ left) ⊎ (2 ^ 32 ≤ n + weight * number_of (groups ++ group ∷ []))
    → groups_from left weight n (groups ++ group ∷ behind) ≡ Err (stop (suc (length behind)) LongInteger)
unfolding groups_from
long_refused [] group behind zero weight n on few small over = refl
long_refused [] group behind (suc left) weight n on few small (inl e) = absurd (omega arith)
long_refused [] group behind (suc left) weight n on few small (inr le) =
    rw (le-ltb (n + group % 128 * weight) (2 ^ 32) (omega arith), groups_from) refl
long_refused (b ∷ groups) group behind zero weight n on few small over = absurd (omega arith)
long_refused (b ∷ groups) group behind (suc left) weight n on few small over =
    rw (lt-ltb (n + b % 128 * weight) (2 ^ 32) (omega arith), le-ltb b 128 on.0, groups_from)
    (long_refused groups group behind left (128 * weight) (n + b % 128 * weight) on.1 (omega arith) (omega arith) (fewer over))
  where
    fewer : (suc (length groups) ≡ suc left) ⊎ (2 ^ 32 ≤ n + weight * (b % 128 + 128 * number_of (groups ++ group ∷ [])))
        → (length groups ≡ left) ⊎ (2 ^ 32 ≤ n + b % 128 * weight + 128 * weight * number_of (groups ++ group ∷ []))
    fewer (inl e) = inl (omega arith)
    fewer (inr le) = inr (omega arith)

-- an integer whose prefix is all ones
beyond : (prefix flag : ℕ) (bytes groups : List ℕ) → flag % 2 ^ prefix ≡ 0 → bytes ≡ (flag + full prefix) ∷ groups
    → integer_at prefix bytes ≡ groups_from 5 1 (full prefix) groups
beyond prefix flag bytes groups clear is =
    let some : 0 < 2 ^ prefix = pow_pos prefix in
    let low : (flag + full prefix) % 2 ^ prefix ≡ full prefix = low_of prefix flag (full prefix) clear (omega arith) in
    ap (integer_at prefix) is ∙ integer_beyond prefix (flag + full prefix) groups (omega (arith, low))

pub integer_refused : (prefix flag : ℕ) (bytes : List ℕ) (at : ℕ) (why : HpackWhy) → flag % 2 ^ prefix ≡ 0
    → BreaksInteger prefix flag bytes at why → Refused (integer_at prefix bytes) bytes at why
integer_refused prefix flag bytes at why clear (integer_ends groups is g place why_is) =
    let small = g.small in (
      0,
      omega arith,
      told (integer_at prefix bytes) 0 why Truncated why_is (beyond prefix flag bytes groups clear is
          ∙ ends_refused groups 5 1 (full prefix) g.on g.few (omega arith)),
    )
integer_refused prefix flag bytes at why clear (integer_too_long groups group behind is g over place why_is) =
    let small = g.small in
    let len : length bytes ≡ suc (length groups + suc (length behind)) = ap (λ (xs : List ℕ). length xs) is
    ∙ ap (λ n. suc n) (length-append groups (group ∷ behind)) in (
      suc (length behind),
      omega arith,
      told (integer_at prefix bytes) (suc (length behind)) why LongInteger why_is
          (beyond prefix flag bytes (groups ++ group ∷ behind) clear is
          ∙ long_refused groups group behind 5 1 (full prefix) g.on g.few (omega arith) (same over)),
    )
  where
    same : (length groups ≡ 5) ⊎ (2 ^ 32 ≤ full prefix + number_of (groups ++ group ∷ []))
        → (length groups ≡ 5) ⊎ (2 ^ 32 ≤ full prefix + 1 * number_of (groups ++ group ∷ []))
    same (inl e) = inl e
    same (inr le) = inr (omega arith)

-- the first byte of an integer that is broken
broken_begins : (prefix flag : ℕ) (bytes : List ℕ) (at : ℕ) (why : HpackWhy) → BreaksInteger prefix flag bytes at why
    → Begins prefix flag bytes
broken_begins prefix flag bytes at why (integer_ends groups is g place why_is) =
    let some : 0 < 2 ^ prefix = pow_pos prefix in
    record { first = flag + full prefix; more = groups; parts = is; above = omega arith; below = omega arith }
broken_begins prefix flag bytes at why (integer_too_long groups group behind is g over place why_is) =
    let some : 0 < 2 ^ prefix = pow_pos prefix in
    record { first = flag + full prefix; more = groups ++ group ∷ behind; parts = is; above = omega arith; below = omega arith }

-- ---- strings

clear_bit : (bit : ℕ) → IsHuffmanBit bit → bit % 2 ^ 7 ≡ 0
clear_bit bit (inl e) = rw e refl
clear_bit bit (inr e) = rw e refl

string_stops : (b : ℕ) (more bytes : List ℕ) (s : Stop) → bytes ≡ b ∷ more → integer_at 7 bytes ≡ Err s → string_at bytes ≡ Err s
unfolding string_at
string_stops b more bytes s is e = let read : integer_at 7 (b ∷ more) ≡ Err s = ap (integer_at 7) (sym is) ∙ e in ap string_at is
    ∙ rw read refl

string_short : (b : ℕ) (more bytes : List ℕ) (n : ℕ) (after : List ℕ) → bytes ≡ b ∷ more → integer_at 7 bytes ≡ Ok (n, after)
    → length after < n → string_at bytes ≡ Err (stop 0 Truncated)
unfolding string_at
string_short b more bytes n after is e lt =
    let read : integer_at 7 (b ∷ more) ≡ Ok (n, after) = ap (integer_at 7) (sym is) ∙ e in
    ap string_at is ∙ rw (read, lt-ltb (length after) n lt, string_at) refl

not_text : (data' : List ℕ) → ((text : List ℕ) → Spells data' text → ⊥) → text_of data' ≡ None
not_text data' none = by_text (text_of data') refl
  where
    by_text : (o : Option (List ℕ)) → text_of data' ≡ o → o ≡ None
    by_text None e = refl
    by_text (Some text) e = absurd (none text (read_is_spelled data' text e))

string_misspelled : (b : ℕ) (more front data' behind bytes : List ℕ) → bytes ≡ front ++ (data' ++ behind) → bytes ≡ b ∷ more → 128 ≤ b
    → IsInteger 7 128 (length data') front
    → text_of data' ≡ None → string_at bytes ≡ Err (stop (length bytes) BadHuffman)
string_misspelled b more front data' behind bytes parts is le front_is none =
    let read : integer_at 7 (b ∷ more) ≡ Ok (length data', data' ++ behind) = ap (integer_at 7) (sym is ∙ parts)
    ∙ integer_again 7 128 (length data') front (data' ++ behind) refl front_is in
    let enough : length data' ≤ length (data' ++ behind) = omega (arith, length-append data' behind) in
    let len : length (b ∷ more) ≡ length bytes = ap (λ (xs : List ℕ). length xs) (sym is) in
    ap string_at is ∙ string_first b more (length data') (data' ++ behind) read enough
    ∙ rw (le-ltb b 128 le, take_at data' behind (length data') refl, none) (ap (λ n. fault _ n BadHuffman) len)

pub string_refused : (bytes : List ℕ) (at : ℕ) (why : HpackWhy) → BreaksString bytes at why → Refused (string_at bytes) bytes at why
unfolding string_at
string_refused bytes at why (no_string is place why_is) =
    let len : length bytes ≡ 0 = ap (λ (xs : List ℕ). length xs) is in
    (0, omega arith, told (string_at bytes) 0 why Truncated why_is (ap string_at is))
string_refused bytes at why (in_length bit is_bit broken) =
    let b = broken_begins 7 bit bytes at why broken in
    refused_so (integer_at 7 bytes) (string_at bytes) bytes at why (λ s e. string_stops b.first b.more bytes s b.parts e)
    (integer_refused 7 bit bytes at why (clear_bit bit is_bit) broken)
string_refused bytes at why (string_ends bit n front behind is_bit parts is lt place why_is) =
    let b = integer_begins 7 bit n front behind bytes is parts in
    let read = ap (integer_at 7) parts ∙ integer_again 7 bit n front behind (clear_bit bit is_bit) is in
    (0, omega arith, told (string_at bytes) 0 why Truncated why_is (string_short b.first b.more bytes n behind b.parts read lt))
string_refused bytes at why (no_text front data' behind parts is none place why_is) =
    let b = integer_begins 7 128 (length data') front (data' ++ behind) bytes is parts in (
      length bytes,
      omega arith,
      told (string_at bytes) (length bytes) why BadHuffman why_is
          (string_misspelled b.first b.more front data' behind bytes parts b.parts b.above is (not_text data' none)),
    )

-- ---- names and literals

pub name_refused : (table : Table) (prefix flag : ℕ) (bytes : List ℕ) (at : ℕ) (why : HpackWhy) → flag % 2 ^ prefix ≡ 0
    → BreaksName table prefix flag bytes at why → Refused (name_at table prefix bytes) bytes at why
unfolding name_at
name_refused table prefix flag bytes at why clear (in_index broken) =
    refused_so (integer_at prefix bytes) (name_at table prefix bytes) bytes at why (λ s e. rw e refl)
    (integer_refused prefix flag bytes at why clear broken)
name_refused table prefix flag bytes at why clear (no_entry i front behind parts is some none place why_is) =
    let read : integer_at prefix bytes ≡ Ok (i, behind) = ap (integer_at prefix) parts
    ∙ integer_again prefix flag i front behind clear is in
    let named : eqb i 0 ≡ false = ne_eqb i 0 (λ e. omega arith) in
    let len : length bytes ≡ length front + length behind = ap (λ (xs : List ℕ). length xs) parts ∙ length-append front behind in (
      length behind + 1,
      omega arith,
      told (name_at table prefix bytes) (length behind + 1) why BadIndex why_is
          (rw (read, named, none) refl),
    )
name_refused table prefix flag bytes at why clear (in_new front behind parts is (inner, broken, place)) =
    let read : integer_at prefix bytes ≡ Ok (0, behind) = ap (integer_at prefix) parts
    ∙ integer_again prefix flag 0 front behind clear is in
    refused_behind (string_at behind) (name_at table prefix bytes) bytes front behind at inner why parts place (λ s e. rw (read, e) refl)
    (string_refused behind inner why broken)

name_broken_begins : (table : Table) (prefix flag : ℕ) (bytes : List ℕ) (at : ℕ) (why : HpackWhy)
    → BreaksName table prefix flag bytes at why → Begins prefix flag bytes
name_broken_begins table prefix flag bytes at why (in_index broken) = broken_begins prefix flag bytes at why broken
name_broken_begins table prefix flag bytes at why (no_entry i front behind parts is some none place why_is) =
    integer_begins prefix flag i front behind bytes is parts
name_broken_begins table prefix flag bytes at why (in_new front behind parts is broken) =
    integer_begins prefix flag 0 front behind bytes is parts

pub literal_refused : (table : Table) (prefix flag : ℕ) (bytes : List ℕ) (at : ℕ) (why : HpackWhy) → flag % 2 ^ prefix ≡ 0
    → BreaksLiteral table prefix flag bytes at why
    → Refused (literal_at table prefix bytes) bytes at why
unfolding literal_at
literal_refused table prefix flag bytes at why clear (in_name broken) =
    refused_so (name_at table prefix bytes) (literal_at table prefix bytes) bytes at why (λ s e. rw e refl)
    (name_refused table prefix flag bytes at why clear broken)
literal_refused table prefix flag bytes at why clear (in_value name front behind parts is (inner, broken, place)) =
    let read : name_at table prefix bytes ≡ Ok (name, behind) = ap (name_at table prefix) parts
    ∙ name_again table prefix flag name front behind clear is in
    refused_behind (string_at behind) (literal_at table prefix bytes) bytes front behind at inner why parts place
    (λ s e. rw (read, e) refl) (string_refused behind inner why broken)

literal_broken_begins : (table : Table) (prefix flag : ℕ) (bytes : List ℕ) (at : ℕ) (why : HpackWhy)
    → BreaksLiteral table prefix flag bytes at why → Begins prefix flag bytes
literal_broken_begins table prefix flag bytes at why (in_name broken) = name_broken_begins table prefix flag bytes at why broken
literal_broken_begins table prefix flag bytes at why (in_value name front behind parts is broken) =
    name_begins table prefix flag name front behind bytes is parts

-- ---- headers

-- what is read of a representation that begins so
field_is_indexed : (table : Table) (bytes : List ℕ) (b : Begins 7 128 bytes)
    → field_at table bytes ≡ (indexed_at table bytes >>= λ l. Ok (field l.0 table l.1))
field_is_indexed table bytes b = ap (field_at table) b.parts ∙ field_indexed table b.first b.more b.above
    ∙ ap (λ (xs : List ℕ). indexed_at table xs >>= λ l. Ok (field l.0 table l.1)) (sym b.parts)

literal_stops : (table : Table) (prefix : ℕ) (bytes : List ℕ) (b : ℕ) (more : List ℕ) (f : Header × List ℕ → Result Field Stop) (s : Stop)
    → bytes ≡ b ∷ more
    → field_at table (b ∷ more) ≡ (literal_at table prefix (b ∷ more) >>= f) → literal_at table prefix bytes ≡ Err s
    → field_at table bytes ≡ Err s
literal_stops table prefix bytes b more f s is step e =
    let read : literal_at table prefix (b ∷ more) ≡ Err s = ap (literal_at table prefix) (sym is) ∙ e in
    ap (field_at table) is ∙ step ∙ rw read refl

indexed_stops : (table : Table) (bytes : List ℕ) (s : Stop) (b : Begins 7 128 bytes) → indexed_at table bytes ≡ Err s
    → field_at table bytes ≡ Err s
indexed_stops table bytes s b e = field_is_indexed table bytes b ∙ rw e refl

pub header_refused : (table : Table) (bytes : List ℕ) (at : ℕ) (why : HpackWhy) → BreaksHeader table bytes at why
    → Refused (field_at table bytes) bytes at why
unfolding indexed_at
header_refused table bytes at why (in_indexed broken) =
    let b = broken_begins 7 128 bytes at why broken in
    refused_so (integer_at 7 bytes) (field_at table bytes) bytes at why (λ s e. indexed_stops table bytes s b (rw e refl))
    (integer_refused 7 128 bytes at why refl broken)
header_refused table bytes at why (no_header i front behind parts is none place why_is) =
    let b = integer_begins 7 128 i front behind bytes is parts in
    let read : integer_at 7 bytes ≡ Ok (i, behind) = ap (integer_at 7) parts ∙ integer_again 7 128 i front behind refl is in
    let len : length bytes ≡ length front + length behind = ap (λ (xs : List ℕ). length xs) parts ∙ length-append front behind in (
      length behind + 1,
      omega arith,
      told (field_at table bytes) (length behind + 1) why BadIndex why_is
          (indexed_stops table bytes (stop (length behind + 1) BadIndex) b (rw (read, none) refl)),
    )
header_refused table bytes at why (in_entered broken) =
    let b = literal_broken_begins table 6 64 bytes at why broken in
    refused_so (literal_at table 6 bytes) (field_at table bytes) bytes at why
    (λ s e. literal_stops table 6 bytes b.first b.more _ s b.parts
    (field_entered table b.first b.more b.above (omega (arith, b.below))) e) (literal_refused table 6 64 bytes at why refl broken)
header_refused table bytes at why (in_passed broken) =
    let b = literal_broken_begins table 4 0 bytes at why broken in
    refused_so (literal_at table 4 bytes) (field_at table bytes) bytes at why
    (λ s e. literal_stops table 4 bytes b.first b.more _ s b.parts (field_passed table b.first b.more (omega (arith, b.below))) e)
    (literal_refused table 4 0 bytes at why refl broken)
header_refused table bytes at why (in_never broken) =
    let b = literal_broken_begins table 4 16 bytes at why broken in
    refused_so (literal_at table 4 bytes) (field_at table bytes) bytes at why
    (λ s e. literal_stops table 4 bytes b.first b.more _ s b.parts (field_passed table b.first b.more (omega (arith, b.below))) e)
    (literal_refused table 4 16 bytes at why refl broken)

-- bytes that begin with no size update
record BeginsHeader (bytes : List ℕ) : Type 0 where
  first : ℕ
  more : List ℕ
  parts : bytes ≡ first ∷ more
  outside : (first < 32) ⊎ (64 ≤ first)

header_broken_begins : (table : Table) (bytes : List ℕ) (at : ℕ) (why : HpackWhy) → BreaksHeader table bytes at why → BeginsHeader bytes
header_broken_begins table bytes at why (in_indexed broken) =
    let b = broken_begins 7 128 bytes at why broken in
    record { first = b.first; more = b.more; parts = b.parts; outside = inr (omega (arith, b.above)) }
header_broken_begins table bytes at why (no_header i front behind parts is none place why_is) =
    let b = integer_begins 7 128 i front behind bytes is parts in
    record { first = b.first; more = b.more; parts = b.parts; outside = inr (omega (arith, b.above)) }
header_broken_begins table bytes at why (in_entered broken) =
    let b = literal_broken_begins table 6 64 bytes at why broken in
    record { first = b.first; more = b.more; parts = b.parts; outside = inr b.above }
header_broken_begins table bytes at why (in_passed broken) =
    let b = literal_broken_begins table 4 0 bytes at why broken in
    record { first = b.first; more = b.more; parts = b.parts; outside = inl (omega (arith, b.below)) }
header_broken_begins table bytes at why (in_never broken) =
    let b = literal_broken_begins table 4 16 bytes at why broken in
    record { first = b.first; more = b.more; parts = b.parts; outside = inl (omega (arith, b.below)) }

begins_no_update : (bytes : List ℕ) → BeginsHeader bytes → is_update bytes ≡ false
begins_no_update bytes b = ap is_update b.parts ∙ no_update_first b.first b.outside

headers_stop_at : (most : ℕ) (table : Table) (bytes : List ℕ) (s : Stop) → 0 < length bytes → length bytes ≤ most
    → field_at table bytes ≡ Err s → headers_at most table bytes ≡ Err s
unfolding headers_at
headers_stop_at most table [] s some le e = absurd (omega arith)
headers_stop_at zero table (b ∷ bytes) s some le e = absurd (omega arith)
headers_stop_at (suc most) table (b ∷ bytes) s some le e = rw e refl

headers_pass : (most : ℕ) (table mid : Table) (bytes rest : List ℕ) (h : Header) (s : Stop) → 0 < length bytes
    → field_at table bytes ≡ Ok (field h mid rest) → headers_at most mid rest ≡ Err s
    → headers_at (suc most) table bytes ≡ Err s
unfolding headers_at
headers_pass most table mid [] rest h s some e r = absurd (omega arith)
headers_pass most table mid (b ∷ bytes) rest h s some e r = rw (e, r) refl

headers_refused : (hs : List Header) (most : ℕ) (table mid : Table) (front behind : List ℕ) (inner : ℕ) (why : HpackWhy)
    → ReadsHeaders table front hs mid → 0 < length behind
    → length (front ++ behind) ≤ most → Refused (field_at mid behind) behind inner why
    → Refused (headers_at most table (front ++ behind)) (front ++ behind) (length front + inner) why
headers_refused [] most table mid front behind inner why read some le broken =
    let none : length front ≡ 0 = ap (λ (xs : List ℕ). length xs) read.0 in
    let whole : front ++ behind ≡ behind = ap (λ (xs : List ℕ). xs ++ behind) read.0 in
    let len : length (front ++ behind) ≡ length behind = ap (λ (xs : List ℕ). length xs) whole in
    refused_behind (field_at mid behind) (headers_at most table (front ++ behind)) (front ++ behind) front behind
    (length front + inner) inner why refl refl
    (λ s e. ap (headers_at most table) whole
    ∙ headers_stop_at most table behind s some (omega arith) (ap (λ (t : Table). field_at t behind) (sym read.1) ∙ e)) broken
headers_refused (h ∷ hs) zero table mid front behind inner why read some le broken =
    let first_some = represents_some table read.0 h read.2 read.4 in
    let front_len : length front ≡ length read.0 + length read.1 = ap (λ (xs : List ℕ). length xs) read.3 ∙ length-append read.0 read.1 in
    let len = length-append front behind in absurd (omega arith)
headers_refused (h ∷ hs) (suc most) table mid front behind inner why (first, rest, next, parts, is, others) some le broken =
    let first_some = represents_some table first h next is in
    let whole : front ++ behind ≡ first ++ (rest ++ behind) = ap (λ (xs : List ℕ). xs ++ behind) parts ∙ append_assoc first rest behind in
    let len : length (front ++ behind) ≡ length first + length (rest ++ behind) = ap (λ (xs : List ℕ). length xs) whole
    ∙ length-append first (rest ++ behind) in
    let front_len : length front ≡ length first + length rest = ap (λ (xs : List ℕ). length xs) parts ∙ length-append first rest in
    let step : field_at table (front ++ behind) ≡ Ok (field h next (rest ++ behind)) = ap (field_at table) whole
    ∙ field_again table first h next (rest ++ behind) is in
    refused_behind (headers_at most next (rest ++ behind)) (headers_at (suc most) table (front ++ behind)) (front ++ behind) first
    (rest ++ behind) (length front + inner) (length rest + inner) why whole (omega arith)
    (λ s e. headers_pass most table next (front ++ behind) (rest ++ behind) h s (omega arith) step e)
    (headers_refused hs most next mid rest behind inner why others some (omega arith) broken)

-- ---- size updates

update_refused : (bytes : List ℕ) (at : ℕ) (why : HpackWhy) → BreaksUpdate bytes at why → Refused (update_at bytes) bytes at why
unfolding update_at
update_refused bytes at why (in_maximum broken) =
    refused_so (integer_at 5 bytes) (update_at bytes) bytes at why (λ s e. rw e refl) (integer_refused 5 32 bytes at why refl broken)
update_refused bytes at why (too_large n front behind parts is lt place why_is) =
    let read : integer_at 5 bytes ≡ Ok (n, behind) = ap (integer_at 5) parts ∙ integer_again 5 32 n front behind refl is in
    let len : length bytes ≡ length front + length behind = ap (λ (xs : List ℕ). length xs) parts ∙ length-append front behind in
    (length behind + 1, omega arith, told (update_at bytes) (length behind + 1) why BadSize why_is (rw (read, lt-leb n 4096 lt) refl))

update_broken_begins : (bytes : List ℕ) (at : ℕ) (why : HpackWhy) → BreaksUpdate bytes at why → Begins 5 32 bytes
update_broken_begins bytes at why (in_maximum broken) = broken_begins 5 32 bytes at why broken
update_broken_begins bytes at why (too_large n front behind parts is lt place why_is) = integer_begins 5 32 n front behind bytes is parts

begins_update : (bytes : List ℕ) → Begins 5 32 bytes → is_update bytes ≡ true
begins_update bytes b = ap is_update b.parts ∙ and_from _ _ (le-leb 32 b.first b.above) (lt-ltb b.first 64 (omega (arith, b.below)))

-- ---- blocks

-- what is read behind size updates, where headers lead to a fault
abbrev FaultBehind : List ℕ → List Header → Table → ℕ → HpackWhy → Type 0
FaultBehind behind hs mid inner why = (most : ℕ) (table : Table) (front : List ℕ) → ReadsHeaders table front hs mid
    → length (front ++ behind) ≤ most
    → Refused (read_behind most table (front ++ behind)) (front ++ behind) (length front + inner) why

updates_refused : (sizes : List ℕ) (most : ℕ) (table : Table) (front : List ℕ) (hs : List Header) (mid : Table) (behind : List ℕ)
    (inner : ℕ) (why : HpackWhy) → ReadsBehind sizes table front hs mid
    → length (front ++ behind) ≤ most → FaultBehind behind hs mid inner why
    → Refused (read_behind most table (front ++ behind)) (front ++ behind) (length front + inner) why
updates_refused [] most table front hs mid behind inner why read le k = k most table front read le
updates_refused (n ∷ sizes) zero table front hs mid behind inner why (first, rest, parts, is, small, others) le k =
    let some = front_some 5 32 n first is in
    let len = length-append front behind in
    let front_len : length front ≡ length first + length rest = ap (λ (xs : List ℕ). length xs) parts ∙ length-append first rest in
    absurd (omega arith)
updates_refused (n ∷ sizes) (suc most) table front hs mid behind inner why (first, rest, parts, is, small, others) le k =
    let whole : front ++ behind ≡ first ++ (rest ++ behind) = ap (λ (xs : List ℕ). xs ++ behind) parts ∙ append_assoc first rest behind in
    let some = front_some 5 32 n first is in
    let len : length (front ++ behind) ≡ length first + length (rest ++ behind) = ap (λ (xs : List ℕ). length xs) whole
    ∙ length-append first (rest ++ behind) in
    let front_len : length front ≡ length first + length rest = ap (λ (xs : List ℕ). length xs) parts ∙ length-append first rest in
    let u = update_again n first (rest ++ behind) is small in
    let step : read_behind (suc most) table (front ++ behind) ≡ read_behind most (resized table n) (rest ++ behind) =
    ap (read_behind (suc most) table) whole ∙ read_behind_one most table (first ++ (rest ++ behind)) (Ok (n, rest ++ behind)) u.0 u.1 in
    refused_behind (read_behind most (resized table n) (rest ++ behind)) (read_behind (suc most) table (front ++ behind))
    (front ++ behind) first (rest ++ behind) (length front + inner) (length rest + inner) why whole (omega arith)
    (λ s e. step ∙ e)
    (updates_refused sizes most (resized table n) rest hs mid behind inner why others (omega arith) k)

-- a size update that is broken
update_behind : (behind : List ℕ) (mid : Table) (inner : ℕ) (why : HpackWhy) → BreaksUpdate behind inner why
    → FaultBehind behind [] mid inner why
update_behind behind mid inner why broken most table front read le =
    let b = update_broken_begins behind inner why broken in
    let whole : front ++ behind ≡ behind = ap (λ (xs : List ℕ). xs ++ behind) read.0 in
    let len : length (front ++ behind) ≡ suc (length b.more) = ap (λ (xs : List ℕ). length xs) (whole ∙ b.parts) in
    let more : suc (most - 1) ≡ most = omega arith in
    refused_behind (update_at behind) (read_behind most table (front ++ behind)) (front ++ behind) front behind
    (length front + inner) inner why refl refl
    (λ s e. ap (read_behind most table) whole ∙ ap (λ m. read_behind m table behind) (sym more)
    ∙ read_behind_one (most - 1) table behind (Err s) (begins_update behind b) e)
    (update_refused behind inner why broken)

-- a header that is broken, or a late size update, where no size update is in front
header_behind : (behind : List ℕ) (hs : List Header) (mid : Table) (inner : ℕ) (why : HpackWhy) → 0 < length behind
    → Refused (field_at mid behind) behind inner why
    → ((table : Table) (front : List ℕ) → ReadsHeaders table front hs mid → is_update (front ++ behind) ≡ false)
    → FaultBehind behind hs mid inner why
header_behind behind hs mid inner why some broken none most table front read le =
    refused_so (headers_at (length (front ++ behind)) table (front ++ behind)) (read_behind most table (front ++ behind))
    (front ++ behind) (length front + inner) why
    (λ s e. read_behind_none most table (front ++ behind) (none table front read) ∙ e)
    (headers_refused hs (length (front ++ behind)) table mid front behind inner why read some (omega arith) broken)

-- headers begin with no size update, whatever is behind them
headers_no_update : (h : Header) (hs : List Header) (table mid : Table) (front behind : List ℕ) → ReadsHeaders table front (h ∷ hs) mid
    → is_update (front ++ behind) ≡ false
headers_no_update h hs table mid front behind (first, rest, next, parts, is, others) =
    let whole : front ++ behind ≡ first ++ (rest ++ behind) = ap (λ (xs : List ℕ). xs ++ behind) parts ∙ append_assoc first rest behind in
    let b = represents_begins table first (rest ++ behind) h next is in
    ap is_update (whole ∙ b.2) ∙ no_update_first b.0 b.3

broken_no_update : (hs : List Header) (behind : List ℕ) (table mid : Table) (front : List ℕ) → BeginsHeader behind
    → ReadsHeaders table front hs mid → is_update (front ++ behind) ≡ false
broken_no_update [] behind table mid front b read = ap (λ (xs : List ℕ). is_update (xs ++ behind)) read.0 ∙ begins_no_update behind b
broken_no_update (h ∷ hs) behind table mid front b read = headers_no_update h hs table mid front behind read

late_refused : (table : Table) (b : ℕ) (behind : List ℕ) (why : HpackWhy) → 32 ≤ b → b < 64 → why ≡ LateSize
    → Refused (field_at table (b ∷ behind)) (b ∷ behind) 0 why
unfolding field_at
late_refused table b behind why low high why_is = (
  length (b ∷ behind),
  omega arith,
  told (field_at table (b ∷ behind)) (length (b ∷ behind)) why LateSize why_is
      (rw (lt-leb 128 b (omega arith), lt-leb 64 b high, le-leb 32 b low, field_at) refl),
)

block_from : (table : Table) (block : List ℕ) (at : ℕ) (why : HpackWhy) (front behind : List ℕ) (hs : List Header) (mid : Table)
    (inner : ℕ) → block ≡ front ++ behind → Reads table front hs mid
    → at ≡ length front + inner → FaultBehind behind hs mid inner why → Refused (block_at table block) block at why
unfolding block_at
block_from table block at why front behind hs mid inner parts read place k =
    let len : length (front ++ behind) ≡ length block = ap (λ (xs : List ℕ). length xs) (sym parts) in
    refused_behind (read_behind (length block) table (front ++ behind)) (block_at table block) block [] (front ++ behind) at
    (length front + inner) why parts (omega arith)
    (λ s e. ap (read_behind (length block) table) parts ∙ e)
    (updates_refused read.0 (length block) table front hs mid behind inner why read.1 (omega arith) k)

-- a block that is broken is refused
pub block_refused : (table : Table) (block : List ℕ) (at : ℕ) (why : HpackWhy) → BreaksAt table block at why
    → Refused (block_at table block) block at why
block_refused table block at why (in_update front behind mid inner parts read broken place) =
    block_from table block at why front behind [] mid inner parts read place (update_behind behind mid inner why broken)
block_refused table block at why (in_header front behind hs mid inner parts read broken place) =
    let b = header_broken_begins mid behind inner why broken in
    let some : length behind ≡ suc (length b.more) = ap (λ (xs : List ℕ). length xs) b.parts in
    block_from table block at why front behind hs mid inner parts read place
    (header_behind behind hs mid inner why (omega arith) (header_refused mid behind inner why broken)
    (λ t f r. broken_no_update hs behind t mid f b r))
block_refused table block at why (late_update front b behind h hs mid parts read low high place why_is) =
    block_from table block at why front (b ∷ behind) (h ∷ hs) mid 0 parts read (omega arith)
    (header_behind (b ∷ behind) (h ∷ hs) mid 0 why (omega arith) (late_refused mid b behind why low high why_is)
    (λ t f r. headers_no_update h hs t mid f (b ∷ behind) r))
