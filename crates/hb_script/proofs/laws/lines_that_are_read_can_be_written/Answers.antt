use Rattle.hb_script.proofs.ReadableLemmas.{CanBeRead-line_of}
use Rattle.hb_script.proofs.laws.lines_that_are_read_can_be_written.Goals as goal

pub returns : goal.returns
returns c = CanBeRead-line_of
