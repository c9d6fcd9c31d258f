-- Header blocks put together from their fragments (RFC 9113 section 4.3).
use Rattle.std.specs.Prelude.{ℕ, ◌+◌, nat_lt, Bool, false, List, [], ◌++◌, length, Option, Some, None, if◌then◌else◌}
use Rattle.hb_hpack.specs.Table.{Table}
use Rattle.hb_hpack.specs.declared.header.HeaderList.{HeaderList}
use Rattle.hb_blocks.specs.declared.whole.Opening.{Opening}

-- the header blocks of a connection
pub record Assembly : Type 0 where
  -- the decoder's table
  pub table : Table
  -- the HEADERS frame of the block that isn't whole yet
  pub opening : Option Opening
  -- the fragments of that block so far, joined
  pub block : List ℕ
  -- the headers of the last block, where it is whole
  pub headers : HeaderList

abbrev pub no_headers : HeaderList
no_headers = record { kept = []; size = 0 }

-- before the first block
abbrev pub fresh : Assembly
fresh = record {
  table = record { entries = []; maximum = 4096 };
  opening = None;
  block = [];
  headers = no_headers;
}

-- the stream of a block that isn't whole yet
abbrev pub stream_of : Option Opening → Option ℕ
stream_of None = None
stream_of (Some opening) = Some opening.stream

-- how far a block is once one more fragment of it came
pub data Progress : Type 0 where
  -- its fragments pass the limit
  too_long : Progress
  -- more of them are to come
  waits : (opening : Opening) (block : List ℕ) → Progress
  -- it is whole
  complete : (opening : Opening) (block : List ℕ) → Progress

-- the most octets of a block
abbrev pub longest_block : ℕ
longest_block = 32768

-- a fragment behind what came of its block, with END_HEADERS or without (RFC 9113 sections 4.3 and 6.10)
abbrev pub joined : Opening → List ℕ → List ℕ → Bool → Progress
joined opening block fragment end_headers =
    if nat_lt longest_block (length block + length fragment) then too_long
    else if end_headers then complete opening (block ++ fragment)
    else waits opening (block ++ fragment)

-- HEADERS came, while no block was open
abbrev pub begun : ℕ → Bool → List ℕ → Bool → Progress
begun stream end_stream fragment end_headers = joined (record { stream = stream; end_stream = end_stream }) [] fragment end_headers

-- the HEADERS frame of the open block; where none is open, nobody asks
abbrev pub opening_of : Option Opening → Opening
opening_of (Some opening) = opening
opening_of None = record { stream = 0; end_stream = false }

-- CONTINUATION of the open block came
abbrev pub continued : Assembly → List ℕ → Bool → Progress
continued s fragment end_headers = joined (opening_of s.opening) s.block fragment end_headers
