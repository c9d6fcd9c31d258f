use Rattle.hb_grpc.proofs.Runs.{one_fault}
use Rattle.hb_grpc.proofs.laws.one_fault.Goals as goal

pub returns : goal.returns
returns c = one_fault
