use Rattle.std.proofs.Common.{◌≡◌, length}
use Rattle.hb_hpack.specs.Reader.{updates_at}
use Rattle.hb_hpack.proofs.Outcomes.{AreOctets}
use Rattle.hb_hpack.proofs.decoder.updates_at.Given as goal

-- the updates from here on give what all give
abbrev pub invariant-loop-rest : goal.invariant-loop-rest
invariant-loop-rest l = record {
  octets : AreOctets l.rest;
  same : updates_at (length l.rest) l.table l.rest ≡ updates_at (length l.bytes) l.initial.table l.bytes;
}

abbrev pub decreases-loop-rest : goal.decreases-loop-rest
decreases-loop-rest l = length l.rest
