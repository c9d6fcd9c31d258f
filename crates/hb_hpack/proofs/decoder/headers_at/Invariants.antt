use Rattle.std.proofs.Common.{◌≡◌, length, List}
use Rattle.hb_hpack.specs.declared.header.Header.{Header}
use Rattle.hb_hpack.specs.Reader.{headers_at, with_headers}
use Rattle.hb_hpack.specs.Decoded.{IsListOf}
use Rattle.hb_hpack.proofs.Outcomes.{AreOctets}
use Rattle.hb_hpack.proofs.decoder.headers_at.Given as goal

-- the headers so far, and those from here on, are all
abbrev pub invariant-loop-rest : goal.invariant-loop-rest
invariant-loop-rest l = record {
  octets : AreOctets l.rest;
  headers : List Header;
  list : IsListOf headers l.list;
  same : with_headers headers (headers_at (length l.rest) l.table l.rest) ≡ headers_at (length l.bytes) l.initial.table l.bytes;
}

abbrev pub decreases-loop-rest : goal.decreases-loop-rest
decreases-loop-rest l = length l.rest
