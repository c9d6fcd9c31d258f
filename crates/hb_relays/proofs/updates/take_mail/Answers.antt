use Rattle.std.proofs.Common.{ap, sym}
use Rattle.hb_relays.specs.Leaving.{begun_in}
use Rattle.hb_relays.proofs.Stopping.{taken_on}
use Rattle.hb_relays.proofs.updates.take_mail.Goals as goal

pub returns-in-Some-take_mail : goal.returns-in-Some-take_mail
returns-in-Some-take_mail c =
    taken_on c.args.gates.now _ c.args.gate c.args.stream c.in-Some-take_mail.mail.begun c.in-Some.gate.now c.take_mail.new.self
    c.take_mail.result c.in-Some.ensures.value (c.at.follows.holds c.take_mail.new.self) c.take_mail.ensures
    (sym (ap begun_in c.in-Some-take_mail.is))

pub returns-in-None-take_mail : goal.returns-in-None-take_mail
returns-in-None-take_mail c =
    taken_on c.args.gates.now _ c.args.gate c.args.stream 0 c.in-Some.gate.now c.take_mail.new.self c.take_mail.result
    c.in-Some.ensures.value (c.at.follows.holds c.take_mail.new.self) c.take_mail.ensures (sym (ap begun_in c.in-None-take_mail.is))
