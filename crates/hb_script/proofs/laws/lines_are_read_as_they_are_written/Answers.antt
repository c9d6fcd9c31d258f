use Rattle.hb_script.proofs.SpellingLemmas.{lines-lines_text}
use Rattle.hb_script.proofs.laws.lines_are_read_as_they_are_written.Goals as goal

pub returns : goal.returns
returns c = lines-lines_text
