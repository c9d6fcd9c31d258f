use Rattle.std.proofs.Common.{refl, inl, arith}
use Rattle.std.proofs.lemmas.Fmt.{decimal_digit}
use Rattle.hb_line_audit.proofs.laws.lines_are_handed_on.Goals as goal

pub returns-clause-lost : goal.returns-clause-lost
returns-clause-lost c = inl (rw (decimal_digit 2 (omega arith)) refl, refl)
