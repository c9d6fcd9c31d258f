use Rattle.std.proofs.Common.{length}
use Rattle.hb_front.proofs.Scanning.{Scanned}
use Rattle.hb_front.proofs.identity.found_in.Given as goal

abbrev pub invariant-loop-rest : goal.invariant-loop-rest
invariant-loop-rest l = Scanned l.tlvs l.rest l.found

abbrev pub decreases-loop-rest : goal.decreases-loop-rest
decreases-loop-rest l = length l.rest
