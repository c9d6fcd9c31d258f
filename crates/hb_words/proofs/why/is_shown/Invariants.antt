use Rattle.std.proofs.Common.{◌≡◌, true, take}
use Rattle.std.specs.List.{list_all}
use Rattle.hb_words.specs.Why.{is_shown}
use Rattle.hb_words.proofs.why.is_shown.Given as goal

abbrev pub invariant-loop-b : goal.invariant-loop-b
invariant-loop-b l = list_all is_shown (take l.b-index l.word) ≡ true
