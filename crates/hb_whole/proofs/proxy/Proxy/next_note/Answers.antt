use Rattle.hb_whole.proofs.Taking.{takes_next}
use Rattle.hb_whole.proofs.proxy.Proxy.next_note.Goals as goal

pub returns-clause-takes : goal.returns-clause-takes
returns-clause-takes c = takes_next c.args.self.now c.next.new.self c.next.result c.next.ensures.head c.next.ensures.still
