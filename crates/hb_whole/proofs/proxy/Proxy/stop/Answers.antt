use Rattle.hb_whole.specs.Queue.{told}
use Rattle.hb_whole.proofs.Ending.{stops}
use Rattle.hb_whole.proofs.proxy.Proxy.stop.Goals as goal

pub returns-clause-stands : goal.returns-clause-stands
returns-clause-stands c =
    stops c.args.self.now c.stop.new.self
    (record c.args.self.now.side { links = c.stopped.new.self; relays = c.stopped-2.new.self; notes = c.stopped-2.new.notes })
    (told c.stopped.new.notes)
    c.args.cause c.stop.ensures c.stopped.ensures.meets c.stopped.ensures.counts c.stopped-2.ensures.meets

pub returns-clause-config : goal.returns-clause-config
returns-clause-config c = c.stop.ensures.0
