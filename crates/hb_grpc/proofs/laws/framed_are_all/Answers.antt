use Rattle.hb_grpc.proofs.Whole.{framed_are_all}
use Rattle.hb_grpc.proofs.laws.framed_are_all.Goals as goal

pub returns : goal.returns
returns c = framed_are_all
