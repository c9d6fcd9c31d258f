use Rattle.hb_frames.proofs.Faults.{fault_stays}
use Rattle.hb_frames.proofs.laws.fault_stays.Goals as goal

pub returns : goal.returns
returns c = fault_stays
