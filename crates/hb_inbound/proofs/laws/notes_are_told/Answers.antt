use Rattle.hb_inbound.proofs.NotesRun.{notes_told}
use Rattle.hb_inbound.proofs.laws.notes_are_told.Goals as goal

pub returns : goal.returns
returns c = notes_told
