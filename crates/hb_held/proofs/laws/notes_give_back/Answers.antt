use Rattle.hb_held.proofs.Before.{notes_give_back}
use Rattle.hb_held.proofs.laws.notes_give_back.Goals as goal

pub returns : goal.returns
returns c = notes_give_back
