use Rattle.hb_relays.proofs.Touching.{takes_then}
use Rattle.hb_relays.proofs.touched.Touched.next.Goals as goal

pub returns-in-None-clause-next : goal.returns-in-None-clause-next
returns-in-None-clause-next g c =
    takes_then c.args.relays.now c.next_from.result c.args.self.now c.next_listed.new.self c.next_from.new.self
    (c.in-None.ensures {u = tt}).next c.next_from.ensures.next
