use Rattle.std.proofs.Common.{refl, ap}
use Rattle.hb_relay.specs.Answering.{routing_of}
use Rattle.hb_relay.specs.Shows.{captured_of}
use Rattle.hb_relay.proofs.Coming.{comes_up, comes_front}
use Rattle.hb_relay.proofs.relay.Relay.take_bytes.Goals as goal

pub returns-in-Fronting : goal.returns-in-Fronting
returns-in-Fronting c =
    comes_front c.args.held.now (routing_of c.args.routes.now) (routing_of c.take_front.new.routes) c.args.self.now c.take_front.new.self
    c.args.b.now c.take_front.result c.in-Fronting.is c.take_front.ensures

pub returns-in_default : goal.returns-in_default
returns-in_default c =
    comes_up c.args.held.now c.args.self.now (record c.args.self.now { ways = c.push_up.new.self }) c.args.b.now
    (routing_of c.args.routes.now) c.in_default.not-Fronting refl
    (ap (λ w. captured_of (record c.args.self.now { ways = w })) c.push_up.ensures)
