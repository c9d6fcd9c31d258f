use Rattle.std.proofs.Common.{◌≡◌, ◌+◌, drop}
use Rattle.hb_hpack.specs.StaticTable.{static_headers}
use Rattle.hb_hpack.specs.Encoding.{same_header, index_from}
use Rattle.hb_hpack.proofs.encoder.index_of_header.Given as goal

-- the headers from here on have the index that all have
abbrev pub invariant-loop-place : goal.invariant-loop-place
invariant-loop-place l =
    index_from (same_header l.h) (1 + l.place) (drop l.place static_headers) ≡ index_from (same_header l.h) 1 static_headers
