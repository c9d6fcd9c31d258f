use Rattle.std.proofs.Common.{Some, None, refl}
use Rattle.hb_relays.proofs.Stirs.{stirs_all_then}
use Rattle.hb_relays.proofs.relays.Relays.tell_at.Goals as goal

pub returns-clause-tells : goal.returns-clause-tells
returns-clause-tells g c = (Some c.in-Some.mail, c.mail_at.new.self, (c.in-Some.ensures {u = tt}).mail, c.deliver.ensures.delivers)

pub returns-clause-stirs : goal.returns-clause-stirs
returns-clause-stirs g c =
    stirs_all_then c.args.self.now c.mail_at.new.self c.deliver.new.self c.mail_at.ensures.stirs c.deliver.ensures.stirs

pub returns-in_default-clause-tells : goal.returns-in_default-clause-tells
returns-in_default-clause-tells g c = (None, c.mail_at.new.self, (c.in_default.ensures {u = tt}).mail, (refl, refl))
