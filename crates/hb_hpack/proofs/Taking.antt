-- A word more of a text that is read, as the reader takes it.
use Rattle.std.proofs.Common.{◌≡◌, ℕ, suc, ◌+◌, ◌-◌, ◌*◌, ◌/◌, ◌%◌, ◌^◌, ◌<◌, ◌≤◌, Bool, true, false, cond, eqb, ltb, ◌&&◌, length, List, [], ◌∷◌, ◌++◌, Option, Some, None, refl, sym, ap, ◌∙◌, arith, append_assoc, inl, inr}
use Rattle.std.proofs.lemmas.Bool.{cases_lt, ne_eqb, eq-eqb}
use Rattle.std.proofs.lemmas.List.{append-nil}
use Rattle.std.proofs.lemmas.Nat.{pow_pos}
use Rattle.std.proofs.Math.Nat.{pow-le-pow_right}
use Rattle.std.proofs.Math.Pow.{shr_lt}
use Rattle.hb_hpack.specs.CodeTables.{row_at, symbol_at}
use Rattle.hb_hpack.specs.Huffman.{bits, bits_of, word}
use Rattle.hb_hpack.specs.HuffmanSteps.{in_front, text_from, text_of}
use Rattle.hb_hpack.specs.Partial.{after_text, IsInFront}
use Rattle.hb_hpack.specs.declared.partial.Held.{Held}
use Rattle.hb_hpack.specs.declared.partial.Found.{Found}
use Rattle.hb_hpack.proofs.Bits.{bits_split, bits_rest, bits_fewer, bits_with, next_bit}
use Rattle.hb_hpack.proofs.CodeTable.{IsShort, word_of_code, last_limit}
use Rattle.hb_hpack.proofs.Reading.{IsOpen, next_row, open_read, word_whole}

-- ---- a word in front

after_in_front : (old : List ℕ) (s : ℕ) (o : Option (List ℕ)) → after_text (old ++ s ∷ []) o ≡ after_text old (in_front s o)
after_in_front old s None = refl
after_in_front old s (Some text) = ap (λ (xs : List ℕ). Some xs) (append_assoc old (s ∷ []) text)

front_read : (held : Held) (found : Found) (rest : List ℕ) → IsInFront held found
    → text_from 0 0 (bits held.count held.bits ++ rest)
    ≡ cond (eqb found.symbol 256) None (in_front found.symbol (text_from 0 0 (bits (held.count - found.length) held.bits ++ rest)))
front_read held found rest w =
    ap (λ (xs : List ℕ). text_from 0 0 (xs ++ rest)) w.begin
    ∙ ap (text_from 0 0) (append_assoc (word found.symbol) (bits (held.count - found.length) held.bits) rest)
    ∙ word_whole found.symbol (bits (held.count - found.length) held.bits ++ rest) w.small

pub symbol_taken : (old : List ℕ) (held : Held) (found : Found) (rest : List ℕ) → IsInFront held found → (found.symbol ≡ 256 → ⊥)
    → after_text (old ++ found.symbol ∷ []) (text_from 0 0 (bits (held.count - found.length) held.bits ++ rest))
    ≡ after_text old (text_from 0 0 (bits held.count held.bits ++ rest))
symbol_taken old held found rest w ne =
    let left : List ℕ = bits (held.count - found.length) held.bits ++ rest in
    let read : text_from 0 0 (bits held.count held.bits ++ rest) ≡ in_front found.symbol (text_from 0 0 left) =
    front_read held found rest w ∙ rw (ne_eqb found.symbol 256 ne) refl in
    after_in_front old found.symbol (text_from 0 0 left) ∙ ap (after_text old) (sym read)

pub end_taken : (old : List ℕ) (held : Held) (found : Found) (rest : List ℕ) → IsInFront held found → found.symbol ≡ 256
    → None ≡ after_text old (text_from 0 0 (bits held.count held.bits ++ rest))
end_taken old held found rest w e =
    let read : text_from 0 0 (bits held.count held.bits ++ rest) ≡ None =
    front_read held found rest w ∙ rw (eq-eqb found.symbol 256 e) refl in
    ap (after_text old) (sym read)

-- ---- a word of at most eight bits

pub short_begins : (count n length s : ℕ) → 8 ≤ count → IsShort length s (n / 2 ^ (count - 8) % 256)
    → bits count n ≡ word s ++ bits (count - length) n
short_begins count n length s le short =
    let within = short.within in
    let parts : 8 - length + (count - 8) ≡ count - length = omega arith in
    let whole : 8 + (count - 8) ≡ count = omega arith in
    let split : bits count n ≡ bits 8 (n / 2 ^ (count - 8)) ++ bits (count - 8) n = rw whole at (bits_split 8 (count - 8) n) in
    let split' : bits (count - length) n ≡ bits (8 - length) (n / 2 ^ (count - 8)) ++ bits (count - 8) n =
    rw parts at (bits_split (8 - length) (count - 8) n) in
    let front : bits 8 (n / 2 ^ (count - 8)) ≡ word s ++ bits (8 - length) (n / 2 ^ (count - 8)) =
    sym (bits_rest 8 (n / 2 ^ (count - 8))) ∙ short.begin
    ∙ ap (λ (xs : List ℕ). word s ++ xs) (bits_fewer (8 - length) 8 (n / 2 ^ (count - 8)) (omega arith)) in
    split ∙ ap (λ (xs : List ℕ). xs ++ bits (count - 8) n) front
    ∙ append_assoc (word s) (bits (8 - length) (n / 2 ^ (count - 8))) (bits (count - 8) n)
    ∙ ap (λ (xs : List ℕ). word s ++ xs) (sym split')

-- ---- a word of any length

-- no word of at most so many bits is in front
pub record IsPast (count n len : ℕ) : Type 0 where
  pub below : n < 2 ^ count
  pub within : len ≤ count
  pub past : (row_at len).limit ≤ n / 2 ^ (count - len)

-- the number of one bit more, and the row of its length
pub record MeetsRow (code len : ℕ) : Type 0 where
  pub first : (row_at len).first ≤ code
  pub below : code < 2 ^ len
  pub places : (row_at len).place + ((row_at len).limit - (row_at len).first) ≤ 257

meets_at : (i count n len : ℕ) → n < 2 ^ count → count ≡ len + suc i → len < 30 → (row_at len).limit ≤ n / 2 ^ suc i
    → MeetsRow (n / 2 ^ i) (len + 1)
meets_at i count n len below parts short past =
    let here : 2 * (n / 2 ^ suc i) + n / 2 ^ i % 2 ≡ n / 2 ^ i = next_bit n i in
    let begun : IsOpen (n / 2 ^ suc i) len = record { short = short; below = shr_lt len (suc i) (rw parts at below); past = past } in
    let row = next_row (n / 2 ^ suc i) len (n / 2 ^ i % 2) begun (omega arith) in
    record { first = rw here at row.first; below = rw here at row.below; places = row.places }

pub meets_row : (count n len : ℕ) → IsPast count n len → len < 30 → len + 1 ≤ count → MeetsRow (n / 2 ^ (count - (len + 1))) (len + 1)
meets_row count n len p short le =
    let next : count - len ≡ suc (count - (len + 1)) = omega arith in
    meets_at (count - (len + 1)) count n len p.below (omega arith) short (rw next at p.past)

pub row_begins : (count n len : ℕ) → len < 31 → len ≤ count → MeetsRow (n / 2 ^ (count - len)) len
    → n / 2 ^ (count - len) < (row_at len).limit
    → bits count n ≡ word (symbol_at ((row_at len).place + (n / 2 ^ (count - len) - (row_at len).first))) ++ bits (count - len) n
row_begins count n len short le m limit =
    let whole : len + (count - len) ≡ count = omega arith in
    let split : bits count n ≡ bits len (n / 2 ^ (count - len)) ++ bits (count - len) n = rw whole at (bits_split len (count - len) n) in
    split ∙ ap (λ (xs : List ℕ). xs ++ bits (count - len) n) (sym (word_of_code len (n / 2 ^ (count - len)) short m.first limit))

-- the same of a number whose low bits these are
pub held_begins : (count n len s : ℕ) → len ≤ count → bits count (n % 2 ^ count) ≡ word s ++ bits (count - len) (n % 2 ^ count)
    → bits count n ≡ word s ++ bits (count - len) n
held_begins count n len s le e =
    sym (bits_rest count n) ∙ e ∙ ap (λ (xs : List ℕ). word s ++ xs) (bits_fewer (count - len) count n (omega arith))

-- no word has more than 30 bits
pub past_is_short : (count n len : ℕ) → IsPast count n len → len < 31 → len < 30
past_is_short count n len p lt =
    elim (cases_lt len 30) [
      | inl h ↦ h
      | inr h ↦
          let at_30 : len ≡ 30 = omega arith in
          let within = p.within in
          let whole : len + (count - len) ≡ count = omega arith in
          let below : n / 2 ^ (count - len) < 2 ^ len = shr_lt len (count - len) (rw whole p.below) in
          let full : (row_at len).limit ≡ 2 ^ len = rw at_30 last_limit in
          let past = p.past in
          absurd (omega arith)
    ]

pub open_of : (count n len : ℕ) → IsPast count n len → len < 30 → count ≡ len → IsOpen n count
open_of count n len p short e =
    let none : count - len ≡ 0 = omega arith in
    let whole : n / 2 ^ 0 ≡ n = omega arith in
    let past : (row_at len).limit ≤ n = rw (none, whole) at p.past in
    record { short = omega arith; below = p.below; past = rw e past }

pub mod_small : (n count : ℕ) → n % 2 ^ count < 2 ^ count
mod_small n count = let p : 0 < 2 ^ count = pow_pos count in omega arith

pub nothing_past : (count n : ℕ) → n < 2 ^ count → IsPast count n 0
unfolding row_at
nothing_past count n below = record { below = below; within = omega arith; past = omega arith }

-- the same by the length of the word that is looked for
pub meets_length : (count n len : ℕ) → IsPast count n (len - 1) → 1 ≤ len → len < 31 → len ≤ count → MeetsRow (n / 2 ^ (count - len)) len
meets_length count n len p some short le =
    let same : len - 1 + 1 ≡ len = omega arith in
    rw same at (meets_row count n (len - 1) p (omega arith) (omega arith))

pub fits_32 : (code len : ℕ) → code < 2 ^ len → len < 31 → code < 2 ^ 32
fits_32 code len below short = let most : 2 ^ len ≤ 2 ^ 30 = pow-le-pow_right {n = 2} (omega arith) {i = len} {j = 30} (omega arith) in
    omega (arith, most)

pub held_open : (count n : ℕ) (rest : List ℕ) → IsOpen (n % 2 ^ count) count
    → text_from 0 0 (bits count n ++ rest) ≡ text_from (n % 2 ^ count) count rest
held_open count n rest begun = ap (λ (xs : List ℕ). text_from 0 0 (xs ++ rest)) (sym (bits_rest count n))
    ∙ open_read (n % 2 ^ count) count rest begun

-- ---- the bytes

byte_read : (count n byte : ℕ) (rest : List ℕ) → byte < 256 → count ≤ 56
    → bits (count + 8) (n % 2 ^ 56 * 256 + byte) ++ rest ≡ bits count n ++ (bits 8 byte ++ rest)
byte_read count n byte rest lt le = ap (λ (xs : List ℕ). xs ++ rest) (bits_with count n byte lt le)
    ∙ append_assoc (bits count n) (bits 8 byte) rest

pub byte_taken : (old : List ℕ) (count n byte : ℕ) (rest : List ℕ) → byte < 256 → count ≤ 56
    → after_text old (text_from 0 0 (bits (count + 8) (n % 2 ^ 56 * 256 + byte) ++ rest))
    ≡ after_text old (text_from 0 0 (bits count n ++ (bits 8 byte ++ rest)))
byte_taken old count n byte rest lt le = ap (λ (xs : List ℕ). after_text old (text_from 0 0 xs)) (byte_read count n byte rest lt le)

cond_both : (t : Bool) (old : List ℕ) → after_text old (cond t (Some []) None) ≡ cond t (Some old) None
cond_both true old = ap (λ (xs : List ℕ). Some xs) (append-nil old)
cond_both false old = refl

-- the end of the bytes, where no word is whole
pub ends_text : (old bs : List ℕ) (code len : ℕ) → text_from 0 0 bs ≡ text_from code len []
    → cond (ltb len 8 && eqb (code + 1) (2 ^ len)) (Some old) None ≡ after_text old (text_from 0 0 bs)
unfolding text_from
ends_text old bs code len e = sym (ap (after_text old) e ∙ cond_both (ltb len 8 && eqb (code + 1) (2 ^ len)) old)

after_nothing : (o : Option (List ℕ)) → after_text [] o ≡ o
after_nothing None = refl
after_nothing (Some text) = refl

pub begins_text : (bytes : List ℕ) → after_text [] (text_from 0 0 (bits 0 0 ++ bits_of bytes)) ≡ text_of bytes
unfolding bits
begins_text bytes = after_nothing (text_of bytes)
