use Rattle.std.proofs.Common.{◌≡◌, take}
use Rattle.hb_script.specs.Spelling.{lines_text}
use Rattle.hb_make.proofs.text.text_of.Given as goal

abbrev pub invariant-loop-line : goal.invariant-loop-line
invariant-loop-line l = l.text.items ≡ lines_text (take l.line-index l.lines)
