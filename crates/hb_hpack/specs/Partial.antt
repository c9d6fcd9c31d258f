-- What the reader of Huffman code holds between two words, and the writer between two bytes.
use Rattle.std.specs.Prelude.{◌≡◌, ℕ, ◌-◌, ◌%◌, ◌^◌, ◌<◌, ◌≤◌, List, ◌++◌, Option, Some, None}
use Rattle.hb_hpack.specs.declared.partial.Held.{Held}
use Rattle.hb_hpack.specs.declared.partial.Found.{Found}
use Rattle.hb_hpack.specs.declared.partial.Unfinished.{Unfinished}
use Rattle.hb_hpack.specs.Huffman.{bits, word}
use Rattle.hb_hpack.specs.HuffmanSteps.{text_from, bytes_from}

-- the bits begin with the word that was found
pub record IsInFront (held : Held) (found : Found) : Type 0 where
  pub small : found.symbol < 257
  pub some : 0 < found.length
  pub within : found.length ≤ held.count
  pub begin : bits held.count held.bits ≡ word found.symbol ++ bits (held.count - found.length) held.bits

-- no word is whole among the bits: they are fewer than the longest word's, and the reading goes on behind them
pub record HasNoWord (held : Held) : Type 0 where
  pub few : held.count < 30
  pub goes_on : (rest : List ℕ) → text_from 0 0 (bits held.count held.bits ++ rest) ≡ text_from (held.bits % 2 ^ held.count) held.count rest

-- a text in front of a text, where there is one
abbrev pub after_text : List ℕ → Option (List ℕ) → Option (List ℕ)
after_text front None = None
after_text front (Some text) = Some (front ++ text)

-- the text that is read in the end: what was read so far, and what the bits held and those from here on give; None where no text is read
abbrev pub read_on : List ℕ → Option Held → List ℕ → Option (List ℕ)
read_on text None rest = None
read_on text (Some held) rest = after_text text (text_from 0 0 (bits held.count held.bits ++ rest))

-- what is written in the end: what was written so far, and the bytes of the bits from here on
abbrev pub written_on : List ℕ → Unfinished → List ℕ → List ℕ
written_on out at rest = out ++ bytes_from at.byte at.count rest
