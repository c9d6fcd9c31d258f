use Rattle.std.proofs.Common.{length}
use Rattle.hb_base.proofs.pieces.+pieces_equal.Given as goal

abbrev pub decreases-pieces_equal : goal.decreases-pieces_equal
decreases-pieces_equal l = length l.pieces.now
