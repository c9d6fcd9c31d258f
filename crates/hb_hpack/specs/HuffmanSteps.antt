-- How a text is read from bits and written as bytes, one bit after another.
use Rattle.std.specs.Prelude.{ℕ, zero, suc, ◌+◌, ◌-◌, ◌*◌, ◌^◌, ◌==◌, nat_lt, ◌&&◌, List, [], ◌∷◌, Option, Some, None, if◌then◌else◌}
use Rattle.std.specs.List.{flat_map}
use Rattle.hb_hpack.specs.Huffman.{bits_of, word, symbol_of}

-- an octet in front of a text, where there is one
abbrev pub in_front : ℕ → Option (List ℕ) → Option (List ℕ)
in_front s None = None
in_front s (Some text) = Some (s ∷ text)

-- the text of the bits, after bits of no whole word: so many, that make the number code
unfoldable pub text_from : ℕ → ℕ → List ℕ → Option (List ℕ)
text_from code len [] = if nat_lt len 8 && (code + 1 == 2 ^ len) then Some [] else None
text_from code len (b ∷ bs) =
    elim (symbol_of (2 * code + b) (len + 1)) [
      | None ↦ text_from (2 * code + b) (len + 1) bs
      | Some s ↦ if s == 256 then None else in_front s (text_from 0 0 bs)
    ]

-- the text that the bytes spell, where there is one
abbrev pub text_of : List ℕ → Option (List ℕ)
text_of bytes = text_from 0 0 (bits_of bytes)

-- a byte with as many ones behind its bits
unfoldable pub with_ones : ℕ → ℕ → ℕ
with_ones zero byte = byte
with_ones (suc n) byte = with_ones n (2 * byte + 1)

-- the bytes of the bits, after count bits that make the number byte; ones fill the last byte
unfoldable pub bytes_from : ℕ → ℕ → List ℕ → List ℕ
bytes_from byte count [] = if count == 0 then [] else with_ones (8 - count) byte ∷ []
bytes_from byte count (b ∷ bs) =
    if count == 7 then (2 * byte + b) ∷ bytes_from 0 0 bs else bytes_from (2 * byte + b) (count + 1) bs

-- the bytes that spell a text
abbrev pub huffman_of : List ℕ → List ℕ
huffman_of text = bytes_from 0 0 (flat_map word text)
