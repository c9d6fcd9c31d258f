use Rattle.hb_captured.proofs.Obeyed.{note_all}
use Rattle.hb_captured.proofs.laws.notes_are_told.Goals as goal

pub returns : goal.returns
returns c = note_all
