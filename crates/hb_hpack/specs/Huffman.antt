-- The Huffman code (RFC 7541 section 5.2 and Appendix B), and the texts that bytes spell in it.
use Rattle.std.specs.Prelude.{◌≡◌, ℕ, zero, suc, ◌+◌, ◌-◌, ◌*◌, ◌/◌, ◌%◌, ◌^◌, ◌<◌, ◌≤◌, ◌==◌, ◌&&◌, Bool, true, List, [], ◌∷◌, ◌++◌, Option, Some, None, replicate, filter, if◌then◌else◌}
use Rattle.std.specs.List.{flat_map, enumerate_from, AllByRecursion}

-- the low count bits of a number, highest first
unfoldable pub bits : ℕ → ℕ → List ℕ
bits zero n = []
bits (suc count) n = (n / 2 ^ count % 2) ∷ bits count n

-- the bits of bytes
abbrev pub bits_of : List ℕ → List ℕ
bits_of bytes = flat_map (bits 8) bytes

-- how many bits the word of each symbol has, with the first symbol behind each row; 256 is the end of a string (Appendix B)
unfoldable pub lengths : List ℕ
lengths =
    13 ∷ 23 ∷ 28 ∷ 28 ∷ 28 ∷ 28 ∷ 28 ∷ 28 ∷ 28 ∷ 24 ∷ 30 ∷ 28 ∷ 28 ∷ 30 ∷ 28 ∷ 28 ∷  -- 0
    28 ∷ 28 ∷ 28 ∷ 28 ∷ 28 ∷ 28 ∷ 30 ∷ 28 ∷ 28 ∷ 28 ∷ 28 ∷ 28 ∷ 28 ∷ 28 ∷ 28 ∷ 28 ∷  -- 16
    6 ∷ 10 ∷ 10 ∷ 12 ∷ 13 ∷ 6 ∷ 8 ∷ 11 ∷ 10 ∷ 10 ∷ 8 ∷ 11 ∷ 8 ∷ 6 ∷ 6 ∷ 6 ∷  -- 32
    5 ∷ 5 ∷ 5 ∷ 6 ∷ 6 ∷ 6 ∷ 6 ∷ 6 ∷ 6 ∷ 6 ∷ 7 ∷ 8 ∷ 15 ∷ 6 ∷ 12 ∷ 10 ∷  -- 48
    13 ∷ 6 ∷ 7 ∷ 7 ∷ 7 ∷ 7 ∷ 7 ∷ 7 ∷ 7 ∷ 7 ∷ 7 ∷ 7 ∷ 7 ∷ 7 ∷ 7 ∷ 7 ∷  -- 64
    7 ∷ 7 ∷ 7 ∷ 7 ∷ 7 ∷ 7 ∷ 7 ∷ 7 ∷ 8 ∷ 7 ∷ 8 ∷ 13 ∷ 19 ∷ 13 ∷ 14 ∷ 6 ∷  -- 80
    15 ∷ 5 ∷ 6 ∷ 5 ∷ 6 ∷ 5 ∷ 6 ∷ 6 ∷ 6 ∷ 5 ∷ 7 ∷ 7 ∷ 6 ∷ 6 ∷ 6 ∷ 5 ∷  -- 96
    6 ∷ 7 ∷ 6 ∷ 5 ∷ 5 ∷ 6 ∷ 7 ∷ 7 ∷ 7 ∷ 7 ∷ 7 ∷ 15 ∷ 11 ∷ 14 ∷ 13 ∷ 28 ∷  -- 112
    20 ∷ 22 ∷ 20 ∷ 20 ∷ 22 ∷ 22 ∷ 22 ∷ 23 ∷ 22 ∷ 23 ∷ 23 ∷ 23 ∷ 23 ∷ 23 ∷ 24 ∷ 23 ∷  -- 128
    24 ∷ 24 ∷ 22 ∷ 23 ∷ 24 ∷ 23 ∷ 23 ∷ 23 ∷ 23 ∷ 21 ∷ 22 ∷ 23 ∷ 22 ∷ 23 ∷ 23 ∷ 24 ∷  -- 144
    22 ∷ 21 ∷ 20 ∷ 22 ∷ 22 ∷ 23 ∷ 23 ∷ 21 ∷ 23 ∷ 22 ∷ 22 ∷ 24 ∷ 21 ∷ 22 ∷ 23 ∷ 23 ∷  -- 160
    21 ∷ 21 ∷ 22 ∷ 21 ∷ 23 ∷ 22 ∷ 23 ∷ 23 ∷ 20 ∷ 22 ∷ 22 ∷ 22 ∷ 23 ∷ 22 ∷ 22 ∷ 23 ∷  -- 176
    26 ∷ 26 ∷ 20 ∷ 19 ∷ 22 ∷ 23 ∷ 22 ∷ 25 ∷ 26 ∷ 26 ∷ 26 ∷ 27 ∷ 27 ∷ 26 ∷ 24 ∷ 25 ∷  -- 192
    19 ∷ 21 ∷ 26 ∷ 27 ∷ 27 ∷ 26 ∷ 27 ∷ 24 ∷ 21 ∷ 21 ∷ 26 ∷ 26 ∷ 28 ∷ 27 ∷ 27 ∷ 27 ∷  -- 208
    20 ∷ 24 ∷ 20 ∷ 21 ∷ 22 ∷ 21 ∷ 21 ∷ 23 ∷ 22 ∷ 22 ∷ 25 ∷ 25 ∷ 24 ∷ 24 ∷ 26 ∷ 23 ∷  -- 224
    26 ∷ 27 ∷ 26 ∷ 26 ∷ 27 ∷ 27 ∷ 27 ∷ 27 ∷ 27 ∷ 28 ∷ 27 ∷ 27 ∷ 27 ∷ 27 ∷ 27 ∷ 26 ∷  -- 240
    30 ∷ []

-- the numbers from n on, count of them
unfoldable pub numbers_from : ℕ → ℕ → List ℕ
numbers_from n zero = []
numbers_from n (suc count) = n ∷ numbers_from (n + 1) count

-- the symbols with their lengths, by length and then by number
unfoldable pub ordered : List (ℕ × ℕ)
ordered = flat_map (λ (l : ℕ). filter (λ (p : ℕ × ℕ). p.1 == l) (enumerate_from 0 lengths)) (numbers_from 5 26)

-- a code word: its symbol, how many bits it has, and the number that they make
pub record Word : Type 0 where
  pub symbol : ℕ
  pub length : ℕ
  pub code : ℕ

-- each word is the one before plus one, with zeros appended up to its length
unfoldable pub words_from : ℕ → ℕ → List (ℕ × ℕ) → List Word
words_from code length [] = []
words_from code length (p ∷ rest) =
    record { symbol = p.0; length = p.1; code = code * 2 ^ (p.1 - length) } ∷ words_from (code * 2 ^ (p.1 - length) + 1) p.1 rest

-- the code: its first word is zeros
unfoldable pub words : List Word
words = words_from 0 0 ordered

unfoldable pub word_among : ℕ → List Word → Option Word
word_among symbol [] = None
word_among symbol (w ∷ ws) = if w.symbol == symbol then Some w else word_among symbol ws

unfoldable pub symbol_among : ℕ → ℕ → List Word → Option ℕ
symbol_among code length [] = None
symbol_among code length (w ∷ ws) = if (w.length == length) && (w.code == code) then Some w.symbol else symbol_among code length ws

-- the symbol of the word that has so many bits, which make the number code, where there is one
unfoldable pub symbol_of : ℕ → ℕ → Option ℕ
symbol_of code length = symbol_among code length words

unfoldable pub bits_of_word : Option Word → List ℕ
bits_of_word None = []
bits_of_word (Some w) = bits w.length w.code

-- the bits of a symbol's word
unfoldable pub word : ℕ → List ℕ
word symbol = bits_of_word (word_among symbol words)

-- whether all bits are one
abbrev pub are_ones : List ℕ → Bool
are_ones [] = true
are_ones (b ∷ bs) = (b == 1) && are_ones bs

-- no word is a front of another
abbrev pub IsPrefixFree : Type 0
IsPrefixFree = (s t : ℕ) (rest : List ℕ) → s < 257 → t < 257 → word t ≡ word s ++ rest → s ≡ t

-- The bits are a text's: its words joined, and then at most seven ones.
pub record AreBitsOf (text all : List ℕ) : Type 0 where
  pub octets : AllByRecursion (λ s. s < 256) text
  pub padding : ℕ
  pub short : padding ≤ 7
  pub joined : all ≡ flat_map word text ++ replicate padding 1

-- the bytes spell the text: their bits are its bits
abbrev pub Spells : List ℕ → List ℕ → Type 0
Spells bytes text = AreBitsOf text (bits_of bytes)
