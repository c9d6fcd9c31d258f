use Rattle.std.proofs.Common.{length}
use Rattle.hb_base.proofs.pieces.+pieces_start_with.Given as goal

abbrev pub decreases-pieces_start_with : goal.decreases-pieces_start_with
decreases-pieces_start_with l = length l.pieces.now
