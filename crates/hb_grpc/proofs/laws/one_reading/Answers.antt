use Rattle.hb_grpc.proofs.OneList.{one_reading}
use Rattle.hb_grpc.proofs.laws.one_reading.Goals as goal

pub returns : goal.returns
returns c = one_reading
