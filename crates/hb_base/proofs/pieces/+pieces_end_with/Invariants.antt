use Rattle.std.proofs.Common.{length}
use Rattle.hb_base.proofs.pieces.+pieces_end_with.Given as goal

abbrev pub decreases-pieces_end_with : goal.decreases-pieces_end_with
decreases-pieces_end_with l = length l.pieces.now
