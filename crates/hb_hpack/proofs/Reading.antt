-- The bits that are read are a text's, and a text's bits are read.
use Rattle.std.proofs.Common.{◌≡◌, ℕ, zero, suc, ◌+◌, ◌-◌, ◌*◌, ◌/◌, ◌%◌, ◌^◌, ◌<◌, ◌≤◌, Bool, true, false, cond, eqb, ltb, ◌&&◌, List, [], ◌∷◌, ◌++◌, Option, Some, None, refl, sym, ap, subst, ◌∙◌, arith, append_assoc, replicate, inl, inr, lit<, lit≤}
use Rattle.std.specs.List.{flat_map, AllByRecursion}
use Rattle.std.proofs.lemmas.Bool.{both_ways, and_from, cases_eq, cases_lt, eq-eqb, lt-ltb, ltb-true, eqb-true, eqb-false, ne_eqb}
use Rattle.std.proofs.lemmas.List.{append-nil}
use Rattle.std.proofs.lemmas.Nat.{le-div, pow_pos}
use Rattle.std.proofs.Math.Nat.{div-eq_of_lt}
use Rattle.hb_hpack.specs.Huffman.{are_ones, IsPrefixFree, bits, word, AreBitsOf, Spells, bits_of}
use Rattle.hb_hpack.specs.CodeTables.{row_at, symbol_at}
use Rattle.hb_hpack.specs.HuffmanSteps.{in_front, text_from, text_of}
use Rattle.hb_hpack.proofs.CodeTable.{row_follows_at, last_limit, limit_below, word_of_code, symbols_small, HasWord, has_word, last_is_ones, others_are_not, both, symbol_found, no_symbol, padding_past}
use Rattle.hb_hpack.proofs.Bits.{bits_push, bits_small, append_small, next_bit, bits_of_ones}

-- the symbol whose word has this many bits, which make this number
abbrev pub symbol_here : ℕ → ℕ → ℕ
symbol_here code len = symbol_at ((row_at len).place + (code - (row_at len).first))

-- bits that begin a word and make none: so many, and the number that they make
pub record IsOpen (code len : ℕ) : Type 0 where
  pub short : len < 30
  pub below : code < 2 ^ len
  pub past : (row_at len).limit ≤ code

pub nothing_open : IsOpen 0 0
unfolding row_at
nothing_open = record { short = lit< tt; below = lit< tt; past = lit≤ tt }

-- a word ends at this bit
pub text_word : (code len b : ℕ) (bs : List ℕ) → len < 30 → (row_at (len + 1)).first ≤ 2 * code + b
    → 2 * code + b < (row_at (len + 1)).limit
    → text_from code len (b ∷ bs) ≡ cond (eqb (symbol_here (2 * code + b) (len + 1)) 256) None
    (in_front (symbol_here (2 * code + b) (len + 1)) (text_from 0 0 bs))
unfolding text_from
text_word code len b bs short first lt = rw (symbol_found (len + 1) (2 * code + b) (omega arith) first lt, text_from) refl

-- no word ends at this bit
pub text_more : (code len b : ℕ) (bs : List ℕ) → (row_at (len + 1)).limit ≤ 2 * code + b
    → text_from code len (b ∷ bs) ≡ text_from (2 * code + b) (len + 1) bs
unfolding text_from
text_more code len b bs le = rw (no_symbol (len + 1) (2 * code + b) le, text_from) refl

-- the rows from one length to the next
pub record NextRow (code len b : ℕ) : Type 0 where
  pub first : (row_at (len + 1)).first ≤ 2 * code + b
  pub below : 2 * code + b < 2 ^ (len + 1)
  pub small : (row_at (len + 1)).limit ≤ 2 ^ (len + 1)
  pub places : (row_at (len + 1)).place + ((row_at (len + 1)).limit - (row_at (len + 1)).first) ≤ 257

pub next_row : (code len b : ℕ) → IsOpen code len → b < 2 → NextRow code len b
next_row code len b begun lt =
    let same : suc len ≡ len + 1 = omega arith in
    let h = row_follows_at len begun.short in
    let first : (row_at (len + 1)).first ≡ 2 * (row_at len).limit = rw (← same) h.first in
    let small : (row_at (len + 1)).limit ≤ 2 ^ (len + 1) = rw (← same) h.small in
    let places : (row_at (len + 1)).place + ((row_at (len + 1)).limit - (row_at (len + 1)).first) ≤ 257 = rw (← same) h.places in
    let past = begun.past in
    let below = begun.below in
    let double : 2 ^ suc len ≡ 2 * 2 ^ len = omega arith in
    let twice : 2 ^ (len + 1) ≡ 2 * 2 ^ len = rw (← same) double in
    record { first = omega arith; below = omega arith; small = small; places = places }

-- what stays open is open
pub stays_open : (code len b : ℕ) → IsOpen code len → b < 2 → (row_at (len + 1)).limit ≤ 2 * code + b → IsOpen (2 * code + b) (len + 1)
stays_open code len b begun lt past =
    let n = next_row code len b begun lt in
    let short : len + 1 < 30 = elim (cases_lt (len + 1) 30) [
      | inl h ↦ h
      | inr h ↦
          let s = begun.short in
          let at_30 : len + 1 ≡ 30 = omega arith in
          let full : (row_at (len + 1)).limit ≡ 2 ^ (len + 1) = rw at_30 last_limit in
          absurd (omega (arith, n.below))
    ] in
    record { short = short; below = n.below; past = past }

-- the bits of the word that ends at a bit
pub word_here : (code len b : ℕ) → IsOpen code len → b < 2 → 2 * code + b < (row_at (len + 1)).limit
    → word (symbol_here (2 * code + b) (len + 1)) ≡ bits len code ++ b ∷ []
word_here code len b begun lt limit =
    let s = begun.short in
    let same : len + 1 ≡ suc len = omega arith in
    word_of_code (len + 1) (2 * code + b) (omega arith) (next_row code len b begun lt).first limit ∙ (rw same (bits_push len code b lt))

-- ---- what is read is a text's bits

symbol_here_small : (code len : ℕ) → (row_at len).place + (code - (row_at len).first) < 257 → symbol_here code len < 257
symbol_here_small code len lt = symbols_small _ lt

abbrev given : List ℕ → Option (List ℕ)
given text = Some text

given_is : (x y : List ℕ) → given x ≡ given y → x ≡ y
given_is x y e = cc

end_is : (b : Bool) (text : List ℕ) → cond b (given []) None ≡ Some text → (b ≡ true) × (text ≡ [])
end_is true text e = (refl, cc)
end_is false text e = absurd cc

word_end : (s : ℕ) (r : Option (List ℕ)) (text : List ℕ) → cond (eqb s 256) None (in_front s r) ≡ Some text
    → (s ≡ 256 → ⊥) × (rest : List ℕ) × (r ≡ Some rest) × (text ≡ s ∷ rest)
word_end s r text e =
    elim (eqb s 256) as (λ v. eqb s 256 ≡ v → cond v None (in_front s r) ≡ Some text
    → (s ≡ 256 → ⊥) × (rest : List ℕ) × (r ≡ Some rest) × (text ≡ s ∷ rest)) [
      | true ↦ λ t e. absurd cc
      | false ↦ λ f e. let q = in_front_some s r text e in (eqb-false s 256 f, q.0, q.1, q.2)
    ] refl e
  where
    in_front_some : (s : ℕ) (r : Option (List ℕ)) (text : List ℕ) → in_front s r ≡ Some text
        → (rest : List ℕ) × (r ≡ Some rest) × (text ≡ s ∷ rest)
    in_front_some s None text e = absurd cc
    in_front_some s (Some rest) text e = (rest, refl, cc)

symbol_small : (s : ℕ) → s < 257 → (s ≡ 256 → ⊥) → s < 256
symbol_small s lt ne = omega arith

-- behind the bits of a word so far: what is read of the others is a text's bits
pub joined_from : (bs : List ℕ) (code len : ℕ) (text : List ℕ) → AllByRecursion (λ b. b < 2) bs → IsOpen code len
    → text_from code len bs ≡ Some text → AreBitsOf text (bits len code ++ bs)
unfolding text_from bits
joined_from [] code len text small begun e =
    let p = end_is (ltb len 8 && eqb (code + 1) (2 ^ len)) text e in
    let q = both _ _ p.0 in
    let short = ltb-true len 8 q.0 in
    let ones : bits len code ≡ replicate len 1 = bits_of_ones len code (eqb-true _ _ q.1) in
    let whole : bits len code ++ [] ≡ replicate len 1 = append-nil (bits len code) ∙ ones in
    subst (λ (t : List ℕ). AreBitsOf t (bits len code ++ [])) (sym p.1)
    (record { octets = tt; padding = len; short = omega arith; joined = whole })
joined_from (b ∷ bs) code len text small begun e =
    elim (cases_lt (2 * code + b) (row_at (len + 1)).limit) [
      | inl lt ↦
          let s : ℕ = symbol_here (2 * code + b) (len + 1) in
          let p = word_end s (text_from 0 0 bs) text
          (sym (text_word code len b bs begun.short (next_row code len b begun small.0).first lt) ∙ e) in
          let rest = p.1 in
          let n = next_row code len b begun small.0 in
          let place : s < 257 = symbol_here_small (2 * code + b) (len + 1) (omega (arith, n.places, n.first)) in
          let r = joined_from bs 0 0 rest small.1 nothing_open p.2 in
          let w : word s ≡ bits len code ++ b ∷ [] = word_here code len b begun small.0 lt in
          let tail : bs ≡ flat_map word rest ++ replicate r.padding 1 = r.joined in
          let front : bits len code ++ b ∷ bs ≡ word s ++ bs = sym (append_assoc (bits len code) (b ∷ []) bs)
          ∙ ap (λ (xs : List ℕ). xs ++ bs) (sym w) in
          let whole : bits len code ++ b ∷ bs ≡ (word s ++ flat_map word rest) ++ replicate r.padding 1 =
          front ∙ ap (λ (xs : List ℕ). word s ++ xs) tail ∙ sym (append_assoc (word s) (flat_map word rest) (replicate r.padding 1)) in
          subst (λ (t : List ℕ). AreBitsOf t (bits len code ++ b ∷ bs)) (sym p.3)
          (record { octets = (symbol_small s place p.0, r.octets); padding = r.padding; short = r.short; joined = whole })
      | inr le ↦
          let begun' = stays_open code len b begun small.0 le in
          let r = joined_from bs (2 * code + b) (len + 1) text small.1 begun' (sym (text_more code len b bs le) ∙ e) in
          let same : len + 1 ≡ suc len = omega arith in
          let pushed : bits (len + 1) (2 * code + b) ≡ bits len code ++ b ∷ [] = rw same (bits_push len code b small.0) in
          let whole : bits (len + 1) (2 * code + b) ++ bs ≡ bits len code ++ b ∷ bs = ap (λ (xs : List ℕ). xs ++ bs) pushed
          ∙ append_assoc (bits len code) (b ∷ []) bs in
          subst (λ (xs : List ℕ). AreBitsOf text xs) whole r
    ]

-- ---- a text's bits are read

-- a word's bits, from any place in it on, give its symbol
word_read : (i : ℕ) (s : ℕ) (w : HasWord s) (rest : List ℕ) → i < w.length
    → text_from (w.code / 2 ^ suc i) (w.length - suc i) (bits (suc i) w.code ++ rest)
    ≡ cond (eqb s 256) None (in_front s (text_from 0 0 rest))
unfolding bits
word_read zero s w rest lt =
    let code : ℕ = w.code in
    let here : 2 * (code / 2 ^ suc zero) + code / 2 ^ zero % 2 ≡ code = next_bit code zero ∙ omega arith in
    let len : w.length - suc zero + 1 ≡ w.length = omega arith in
    let first : (row_at (w.length - suc zero + 1)).first ≤ 2 * (code / 2 ^ suc zero) + code / 2 ^ zero % 2 = rw (here, len) w.first in
    let limit : 2 * (code / 2 ^ suc zero) + code / 2 ^ zero % 2 < (row_at (w.length - suc zero + 1)).limit = rw (here, len) w.limit in
    let short = w.short in
    let symbol : symbol_here (2 * (code / 2 ^ suc zero) + code / 2 ^ zero % 2) (w.length - suc zero + 1) ≡ s = rw (here, len) w.symbol_is in
    text_word (code / 2 ^ suc zero) (w.length - suc zero) (code / 2 ^ zero % 2) rest (omega arith) first limit ∙ rw symbol refl
word_read (suc i) s w rest lt =
    let code : ℕ = w.code in
    let here : 2 * (code / 2 ^ suc (suc i)) + code / 2 ^ suc i % 2 ≡ code / 2 ^ suc i = next_bit code (suc i) in
    let len : w.length - suc (suc i) + 1 ≡ w.length - suc i = omega arith in
    let left : w.length - (w.length - suc i) ≡ suc i = omega arith in
    let shorter = limit_below w.length (w.length - suc i) w.short (omega arith) in
    let scaled : (row_at (w.length - suc i)).limit * 2 ^ suc i ≤ (row_at w.length).first = rw left at shorter in
    let past : (row_at (w.length - suc i)).limit ≤ code / 2 ^ suc i =
    le-div _ code (2 ^ suc i) (pow_pos (suc i)) (omega (arith, w.first)) in
    let limit : (row_at (w.length - suc (suc i) + 1)).limit ≤ 2 * (code / 2 ^ suc (suc i)) + code / 2 ^ suc i % 2 = rw (here, len) past in
    text_more (code / 2 ^ suc (suc i)) (w.length - suc (suc i)) (code / 2 ^ suc i % 2) (bits (suc i) code ++ rest) limit
    ∙ ap (λ c. text_from c (w.length - suc (suc i) + 1) (bits (suc i) code ++ rest)) here
    ∙ ap (λ n. text_from (code / 2 ^ suc i) n (bits (suc i) code ++ rest)) len
    ∙ word_read i s w rest (omega arith)

-- a word's number is below its row's end
word_start : (s : ℕ) (w : HasWord s) → w.code / 2 ^ w.length ≡ 0
word_start s w =
    let short = w.short in
    let some = w.some in
    let same : suc (w.length - 1) ≡ w.length = omega arith in
    let h = row_follows_at (w.length - 1) (omega arith) in
    let small : (row_at w.length).limit ≤ 2 ^ w.length = rw same at h.small in
    let limit = w.limit in
    div-eq_of_lt (omega arith)

-- a whole word gives its symbol, or ends the reading
pub word_whole : (s : ℕ) (rest : List ℕ) → s < 257
    → text_from 0 0 (word s ++ rest) ≡ cond (eqb s 256) None (in_front s (text_from 0 0 rest))
word_whole s rest lt =
    let w = has_word s lt in
    let some = w.some in
    let at_0 : w.code / 2 ^ w.length ≡ 0 = word_start s w in
    let at_len : suc (w.length - 1) ≡ w.length = omega arith in
    let none : w.length - w.length ≡ 0 = omega arith in
    let read : text_from (w.code / 2 ^ suc (w.length - 1)) (w.length - suc (w.length - 1)) (bits (suc (w.length - 1)) w.code ++ rest)
    ≡ cond (eqb s 256) None (in_front s (text_from 0 0 rest)) = word_read (w.length - 1) s w rest (omega arith) in
    let read' : text_from 0 0 (bits w.length w.code ++ rest) ≡ cond (eqb s 256) None (in_front s (text_from 0 0 rest)) =
    rw (at_len, at_0, none) at read in
    ap (λ (xs : List ℕ). text_from 0 0 (xs ++ rest)) w.word_is ∙ read'

-- a symbol of a text
word_first : (s : ℕ) (rest : List ℕ) → s < 256 → text_from 0 0 (word s ++ rest) ≡ in_front s (text_from 0 0 rest)
word_first s rest lt = let other : eqb s 256 ≡ false = ne_eqb s 256 (λ e. omega arith) in word_whole s rest (omega arith) ∙ rw other refl

-- what stands past a row's words stands past the rows before it
open_front : (i code len : ℕ) → IsOpen code len → i ≤ len → (row_at (len - i)).limit ≤ code / 2 ^ i
open_front zero code len begun le =
    let same : len - zero ≡ len = omega arith in
    let whole : code / 2 ^ zero ≡ code = omega arith in
    rw (same, whole) begun.past
open_front (suc i) code len begun le =
    let short = begun.short in
    let past = begun.past in
    let left : len - (len - suc i) ≡ suc i = omega arith in
    let same : suc (len - 1) ≡ len = omega arith in
    let ordered : (row_at len).first ≤ (row_at len).limit = rw same at (row_follows_at (len - 1) (omega arith)).ordered in
    let scaled : (row_at (len - suc i)).limit * 2 ^ suc i ≤ (row_at len).first =
    rw left at (limit_below len (len - suc i) (omega arith) (omega arith)) in
    le-div _ code (2 ^ suc i) (pow_pos (suc i)) (omega arith)

open_from : (i code len : ℕ) (rest : List ℕ) → IsOpen code len → i ≤ len
    → text_from (code / 2 ^ i) (len - i) (bits i code ++ rest) ≡ text_from code len rest
unfolding bits
open_from zero code len rest begun le =
    let same : len - zero ≡ len = omega arith in
    let whole : code / 2 ^ zero ≡ code = omega arith in
    rw (same, whole) refl
open_from (suc i) code len rest begun le =
    let here : 2 * (code / 2 ^ suc i) + code / 2 ^ i % 2 ≡ code / 2 ^ i = next_bit code i in
    let next : len - suc i + 1 ≡ len - i = omega arith in
    let past : (row_at (len - suc i + 1)).limit ≤ 2 * (code / 2 ^ suc i) + code / 2 ^ i % 2 =
    rw (here, next) (open_front i code len begun (omega arith)) in
    text_more (code / 2 ^ suc i) (len - suc i) (code / 2 ^ i % 2) (bits i code ++ rest) past
    ∙ ap (λ c. text_from c (len - suc i + 1) (bits i code ++ rest)) here
    ∙ ap (λ n. text_from (code / 2 ^ i) n (bits i code ++ rest)) next
    ∙ open_from i code len rest begun (omega arith)

-- bits of which no word is whole are read, and none is a symbol
pub open_read : (code len : ℕ) (rest : List ℕ) → IsOpen code len → text_from 0 0 (bits len code ++ rest) ≡ text_from code len rest
open_read code len rest begun =
    let start : code / 2 ^ len ≡ 0 = div-eq_of_lt begun.below in
    let none : len - len ≡ 0 = omega arith in
    rw (start, none) at (open_from len code len rest begun (omega arith))

padding_ends : (n : ℕ) → n ≤ 7 → text_from (2 ^ n - 1) n [] ≡ Some []
unfolding text_from
padding_ends n le =
    let p : 0 < 2 ^ n = pow_pos n in
    let whole : 2 ^ n - 1 + 1 ≡ 2 ^ n = omega arith in
    rw (lt-ltb n 8 (omega arith), eq-eqb (2 ^ n - 1 + 1) (2 ^ n) whole) refl

-- at most seven ones are read as nothing
ones_read : (n : ℕ) → n ≤ 7 → text_from 0 0 (replicate n 1) ≡ Some []
ones_read n le =
    let p : 0 < 2 ^ n = pow_pos n in
    let begun : IsOpen (2 ^ n - 1) n = record { short = omega arith; below = omega arith; past = padding_past n (omega arith) } in
    let ones : bits n (2 ^ n - 1) ++ [] ≡ replicate n 1 = append-nil (bits n (2 ^ n - 1)) ∙ bits_of_ones n (2 ^ n - 1) (omega arith) in
    ap (text_from 0 0) (sym ones) ∙ open_read (2 ^ n - 1) n [] begun ∙ padding_ends n le

words_read : (text : List ℕ) (n : ℕ) → AllByRecursion (λ s. s < 256) text → n ≤ 7
    → text_from 0 0 (flat_map word text ++ replicate n 1) ≡ Some text
words_read [] n octets le = ones_read n le
words_read (s ∷ text) n octets le =
    ap (text_from 0 0) (append_assoc (word s) (flat_map word text) (replicate n 1))
    ∙ word_first s (flat_map word text ++ replicate n 1) octets.0
    ∙ ap (in_front s) (words_read text n octets.1 le)

-- what is read of bits is exactly the text whose bits they are
pub text_is_read : (all text : List ℕ) → AreBitsOf text all → text_from 0 0 all ≡ Some text
text_is_read all text b = ap (text_from 0 0) b.joined ∙ words_read text b.padding b.octets b.short

bits_all_small : (bytes : List ℕ) → AllByRecursion (λ b. b < 2) (bits_of bytes)
bits_all_small [] = tt
bits_all_small (byte ∷ bytes) = append_small (bits 8 byte) (bits_of bytes) (bits_small 8 byte) (bits_all_small bytes)

-- the text that is read of bytes is spelled by them
pub read_is_spelled : (bytes text : List ℕ) → text_of bytes ≡ Some text → Spells bytes text
unfolding bits
read_is_spelled bytes text e = joined_from (bits_of bytes) 0 0 text (bits_all_small bytes) nothing_open e

-- a text that is spelled is read
pub spelled_is_read : (bytes text : List ℕ) → Spells bytes text → text_of bytes ≡ Some text
spelled_is_read bytes text s = text_is_read (bits_of bytes) text s

-- ---- no word begins another

one_symbol : (s t : ℕ) (r : Option (List ℕ)) → in_front s r ≡ Some (t ∷ []) → s ≡ t
one_symbol s t None e = absurd cc
one_symbol s t (Some rest) e = let parts : given (s ∷ rest) ≡ given (t ∷ []) = e in cc

alone : (t : ℕ) → t < 256 → text_from 0 0 (word t) ≡ Some (t ∷ [])
alone t lt = ap (text_from 0 0) (sym (append-nil (word t))) ∙ word_first t [] lt ∙ ap (in_front t) (ones_read 0 (omega arith))

ones_front : (xs ys : List ℕ) → are_ones (xs ++ ys) ≡ true → are_ones xs ≡ true
ones_front [] ys e = refl
ones_front (x ∷ xs) ys e = let p = both (eqb x 1) (are_ones (xs ++ ys)) e in and_from (eqb x 1) (are_ones xs) p.0 (ones_front xs ys p.1)

pub prefix_free : IsPrefixFree
prefix_free s t rest s_is t_is e =
    elim (cases_eq s 256) [
      | inl s_end ↦ elim (cases_eq t 256) [
        | inl t_end ↦ s_end ∙ sym t_end
        | inr t_other ↦
            let lt : t < 256 = omega (arith, t_other) in
            let stops : text_from 0 0 (word s ++ rest) ≡ None = word_whole s rest s_is ∙ rw s_end refl in
            let both_ways : None ≡ given (t ∷ []) = sym stops ∙ ap (text_from 0 0) (sym e) ∙ alone t lt in
            absurd cc
      ]
      | inr s_other ↦ elim (cases_eq t 256) [
        | inl t_end ↦
            let lt : s < 256 = omega (arith, s_other) in
            let ones : are_ones (word s ++ rest) ≡ true = ap are_ones (sym e) ∙ ap (λ k. are_ones (word k)) t_end ∙ last_is_ones in
            let front = ones_front (word s) rest ones in
            absurd (both_ways (are_ones (word s)) (others_are_not s lt) front)
        | inr t_other ↦
            let s_lt : s < 256 = omega (arith, s_other) in
            let t_lt : t < 256 = omega (arith, t_other) in
            one_symbol s t (text_from 0 0 rest) (sym (word_first s rest s_lt) ∙ ap (text_from 0 0) (sym e) ∙ alone t t_lt)
      ]
    ]
