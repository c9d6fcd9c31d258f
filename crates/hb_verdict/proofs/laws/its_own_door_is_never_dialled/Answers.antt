use Rattle.hb_verdict.proofs.Dialled.{never_its_door, never_nowhere}
use Rattle.hb_verdict.proofs.laws.its_own_door_is_never_dialled.Goals as goal

pub returns : goal.returns
returns c = record { never = never_its_door; nowhere = never_nowhere }
