use Rattle.hb_frames.proofs.OneFault.{one_fault}
use Rattle.hb_frames.proofs.laws.one_fault.Goals as goal

pub returns : goal.returns
returns c = one_fault
