use Rattle.std.proofs.Common.{Option, subst}
use Rattle.hb_gate.specs.Calls.{TellsEnd}
use Rattle.hb_gate.specs.Streams.{TakesMail}
use Rattle.hb_gate.specs.declared.gate.Gate.{Gate}
use Rattle.hb_gate.specs.declared.looking.Mail.{Mail}
use Rattle.hb_gate.proofs.Mailed.{mail_taken}
use Rattle.hb_gate.proofs.gate.Gate.next_mail.Goals as goal

pub returns-in-Some-take_mail-clause-tells : goal.returns-in-Some-take_mail-clause-tells
returns-in-Some-take_mail-clause-tells c =
    let n = c.in-Some.number in
    let mail = c.in-Some-take_mail.mail in
    let before = c.loop-from.self in
    let after = c.take_mail.new.self in
    subst (λ (k : Gate). TellsEnd mail.stream mail.cause mail.begun mail.link k after) c.loop-from.invariant.0
    (mail_taken n before after mail
    (subst (λ (o : Option Mail). TakesMail n before o after) c.in-Some-take_mail.is c.take_mail.ensures))
