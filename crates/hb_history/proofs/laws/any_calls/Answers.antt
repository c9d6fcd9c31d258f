use Rattle.hb_history.proofs.Called.{calls_stand, any_cut}
use Rattle.hb_history.proofs.Cuts.{same_frames}
use Rattle.hb_history.proofs.laws.any_calls.Goals as goal

pub returns : goal.returns
returns c = record { stand = calls_stand; cut = any_cut; frames = same_frames }
