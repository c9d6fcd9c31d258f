-- How long the blocks are that are spelled plain, and that a payment goes on spelling so.
use Rattle.std.proofs.Common.{◌≡◌, ℕ, zero, suc, ◌+◌, ◌-◌, ◌≤◌, ◌/◌, Bool, true, false, cond, List, [], ◌∷◌, length, Option, Some, None, refl, ap, ◌∙◌, arith, length-append}
use Rattle.std.specs.Prelude.{nat_lt}
use Rattle.std.specs.List.{flat_map}
use Rattle.std.proofs.lemmas.List.Concat.{flat_map-cons}
use Rattle.hb_base.proofs.GroupLemmas.{groups_few}
use Rattle.hb_hpack.specs.Table.{size_of, total}
use Rattle.hb_hpack.specs.Encoding.{Writing, integer_of, string_of, literal_of, representation_of, header_of, opening, block_of}
use Rattle.hb_hpack.specs.Integer.{full}
use Rattle.hb_hpack.specs.declared.header.Header.{Header}
use Rattle.hb_hpack.specs.declared.spelling.Spelling.TheVariants.{Plain}
use Rattle.hb_outgoing.specs.Waiting.{room_of}
use Rattle.hb_owed.specs.declared.due.Due.{Due}
use Rattle.hb_owed.specs.declared.due.Due.TheVariants as due
use Rattle.hb_owed.specs.Debts.{dues}
use Rattle.hb_owed.specs.Frames.{behind, size_of as due_size}
use Rattle.hb_owed.specs.Paid.{Payment, with_put, put_while_fits, paid}

-- the lesser of two bounds that hold whichever is taken
either_short : (b : Bool) (xs ys : List ℕ) (n : ℕ) → length xs ≤ n → length ys ≤ n → length (cond b xs ys) ≤ n
either_short true xs ys n x y = x
either_short false xs ys n x y = y

integer_short : (prefix flag n : ℕ) → length (integer_of prefix flag n) ≤ 11
unfolding integer_of
integer_short prefix flag n =
    either_short (nat_lt n (full prefix)) _ _ _ (omega arith) (omega (arith, groups_few 10 (n - full prefix)))

string_short : (text : List ℕ) → length (string_of Plain text) ≤ 11 + length text
unfolding string_of
string_short text =
    omega (arith, length-append (integer_of 7 0 (length text)) text, integer_short 7 0 (length text))

literal_short : (index : Option ℕ) (h : Header) → length (literal_of index Plain h) ≤ size_of h
literal_short None h =
    omega (arith, length-append (0 ∷ string_of Plain h.name) (string_of Plain h.value), string_short h.name, string_short h.value)
literal_short (Some i) h =
    omega (arith, length-append (integer_of 4 0 i) (string_of Plain h.value), integer_short 4 0 i, string_short h.value)

representation_short : (index name : Option ℕ) (h : Header) → length (representation_of index Plain h) ≤ size_of h
representation_short None name h = literal_short _ h
representation_short (Some i) name h = omega (arith, integer_short 7 128 i)

-- a header is spelled in no more octets than its size
header_short : (h : Header) → length (header_of Plain h) ≤ size_of h
unfolding header_of
header_short h = representation_short _ None h

headers_short : (hs : List Header) → length (flat_map (header_of Plain) hs) ≤ total hs
headers_short [] = omega arith
headers_short (h ∷ hs) =
    let parts = ap length (flat_map-cons (header_of Plain) h hs) in
    let sum = length-append (header_of Plain h) (flat_map (header_of Plain) hs) in
    omega (arith, parts, sum, header_short h, headers_short hs)

opening_short : (started : Bool) → length (opening started) ≤ 1
opening_short true = omega arith
opening_short false = omega arith

-- a block is no longer than its headers' size and one octet
pub block_short : (w : Writing) (hs : List Header) → w.spelling ≡ Plain → length (block_of w hs) ≤ 1 + total hs
unfolding block_of
block_short w hs plain =
    rw plain
    (omega (arith, length-append (opening w.started) (flat_map (header_of Plain) hs), opening_short w.started, headers_short hs))

behind_keeps : (d : Due) (w : Writing) → (behind d w).spelling ≡ w.spelling
behind_keeps (due.Status status) w = refl
behind_keeps (due.Credit n) w = refl
behind_keeps due.End w = refl
behind_keeps (due.Reset code) w = refl

puts_keep : (xs : List (ℕ × Due)) (p : Payment) → (put_while_fits xs p).writing.spelling ≡ p.writing.spelling
puts_keep [] p = refl
puts_keep (x ∷ xs) p =
    elim (nat_lt (room_of p.out) (due_size x.1)) as (λ b. (cond b p (put_while_fits xs (with_put x.0 x.1 p))).writing.spelling ≡
    p.writing.spelling) [
      | true ↦ refl
      | false ↦ puts_keep xs (with_put x.0 x.1 p) ∙ behind_keeps x.1 p.writing
    ]

-- a payment goes on spelling as before
pub pay_keeps : (p : Payment) → (paid p).writing.spelling ≡ p.writing.spelling
pay_keeps p = puts_keep (dues p.owed) p
