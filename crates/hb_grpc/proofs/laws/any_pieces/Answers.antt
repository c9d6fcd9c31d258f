use Rattle.hb_grpc.proofs.Runs.{any_pieces}
use Rattle.hb_grpc.proofs.laws.any_pieces.Goals as goal

pub returns : goal.returns
returns c = any_pieces
