use Rattle.hb_line_audit.proofs.Noting.{hands_lines}
use Rattle.hb_line_audit.proofs.laws.notes_told_are_lines_handed_on.Goals as goal

pub returns : goal.returns
returns g c = hands_lines g.K.Polled.written
