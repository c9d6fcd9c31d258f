use Rattle.hb_relays.proofs.Observing.{holds_are}
use Rattle.hb_relays.proofs.relays.Relays.output.Goals as goal

pub returns-clause-machine : goal.returns-clause-machine
returns-clause-machine c = holds_are c.args.self.now c.args.number
