use Rattle.hb_relays.proofs.Hearing.{hears_then}
use Rattle.hb_relays.proofs.relays.Relays.next_stirred.Goals as goal

pub returns-in-None-clause-hears : goal.returns-in-None-clause-hears
returns-in-None-clause-hears c =
    hears_then c.tell_link.result c.args.self.now c.tell_up.new.self c.tell_link.new.self (c.in-None.ensures {u = tt}).hears
    c.tell_link.ensures.hears
