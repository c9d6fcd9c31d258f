use Rattle.hb_grpc.proofs.Stays.{fault_stays}
use Rattle.hb_grpc.proofs.laws.fault_stays.Goals as goal

pub returns : goal.returns
returns c = fault_stays
