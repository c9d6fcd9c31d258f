use Rattle.std.proofs.Common.{refl}
use Rattle.hb_relays.proofs.Settling.{mail_is}
use Rattle.hb_relays.proofs.Stirs.{gate_seen_stirs, taken_seen}
use Rattle.hb_relays.proofs.relays.Relays.mail_at.Goals as goal

pub returns-clause-mail : goal.returns-clause-mail
returns-clause-mail c =
    let after = c.take_mail.new.self in
    mail_is c.args.self.now _ _ c.args.number c.args.stream c.in-Some.gate.now after c.take_mail.result c.in-Some.ensures.value
    c.take_mail.ensures (c.at.follows.holds after) refl

pub returns-clause-stirs : goal.returns-clause-stirs
returns-clause-stirs c =
    let after = c.take_mail.new.self in
    let seen = taken_seen c.args.stream c.in-Some.gate.now after c.take_mail.result c.take_mail.ensures in
    gate_seen_stirs c.args.self.now _ _ c.args.number c.in-Some.gate.now after c.in-Some.ensures.value (c.at.follows.holds after) refl
    seen.0 seen.1
