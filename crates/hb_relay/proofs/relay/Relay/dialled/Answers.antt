use Rattle.hb_relay.proofs.Meeting.{dials}
use Rattle.hb_relay.proofs.relay.Relay.dialled.Goals as goal

pub returns : goal.returns
returns c = λ to why. dials c.args.self.now c.dial.new.self c.args.link to why (c.dial.ensures to why)
