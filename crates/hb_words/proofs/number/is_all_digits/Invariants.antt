use Rattle.std.proofs.Common.{◌≡◌, true, take}
use Rattle.std.specs.List.{list_all}
use Rattle.hb_base.specs.Decimal.{is_digit}
use Rattle.hb_words.proofs.number.is_all_digits.Given as goal

abbrev pub invariant-loop-b : goal.invariant-loop-b
invariant-loop-b l = list_all is_digit (take l.b-index l.text) ≡ true
