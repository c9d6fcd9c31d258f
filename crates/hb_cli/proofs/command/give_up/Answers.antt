use Rattle.std.proofs.Common.{refl, inl}
use Rattle.std.specs.String.{string_bytes}
use Rattle.hb_cli.proofs.Concluding.{made}
use Rattle.hb_cli.proofs.command.give_up.Goals as goal

pub returns-in-Words-clause-line : goal.returns-in-Words-clause-line
returns-in-Words-clause-line g c =
    made string_bytes c.line.result _ _ _ _ 2 c.in-Words.is refl refl c.line.ensures c.tell_made.ensures.line

pub returns-in-TooLong-clause-line : goal.returns-in-TooLong-clause-line
returns-in-TooLong-clause-line g c = rw c.in-TooLong.is (inl (c.tell.ensures.status, c.tell.ensures.line))

pub returns-in-Refused-clause-line : goal.returns-in-Refused-clause-line
returns-in-Refused-clause-line g c =
    made string_bytes c.line-in-Refused.result _ _ _ _ 3 c.in-Refused.is refl refl c.line-in-Refused.ensures
    c.tell_made-in-Refused.ensures.line

pub returns-in-ReadFault-clause-line : goal.returns-in-ReadFault-clause-line
returns-in-ReadFault-clause-line g c = rw c.in-ReadFault.is (inl (c.tell-in-ReadFault.ensures.status, c.tell-in-ReadFault.ensures.line))
