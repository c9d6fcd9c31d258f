-- What the tables of the Huffman code have, by length, symbol, place and front.
use Rattle.std.specs.Prelude.{ℕ, slice_index_or}
use Rattle.hb_hpack.specs.declared.partial.Found.{Found}
use Rattle.hb_hpack.specs.declared.code_table.Code.{Code}
use Rattle.hb_hpack.specs.declared.code_table.Row.{Row}
use Rattle.hb_hpack.specs.declared.code_table.TheConstants.{LENGTHS, WORDS, SYMBOLS, FIRSTS, LIMITS, PLACES, SHORT_LENGTHS, SHORT_SYMBOLS}

-- the words of a length, as the code table has them
unfoldable pub row_at : ℕ → Row
row_at length = record {
  first = slice_index_or FIRSTS length 0;
  limit = slice_index_or LIMITS length 0;
  place = slice_index_or PLACES length 0;
}

-- the word of a symbol, as the code table has it
unfoldable pub code_at : ℕ → Code
code_at symbol = record { bits = slice_index_or WORDS symbol 0; length = slice_index_or LENGTHS symbol 0 }

-- the symbol at a place of the order
unfoldable pub symbol_at : ℕ → ℕ
symbol_at place = slice_index_or SYMBOLS place 0

-- the short word in front of eight bits, as the code table has it
unfoldable pub short_at : ℕ → Found
short_at front = record { symbol = slice_index_or SHORT_SYMBOLS front 0; length = slice_index_or SHORT_LENGTHS front 0 }
