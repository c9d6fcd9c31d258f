use Rattle.hb_link.proofs.NotShown.{tells_twice, tells_behind_lost}
use Rattle.hb_link.proofs.laws.notes_are_told_once.Goals as goal

pub returns : goal.returns
returns c = record { twice = tells_twice; behind = tells_behind_lost }
