use Rattle.hb_gate.specs.Streams.{ended_here}
use Rattle.hb_gate.proofs.Moved.{changes_here}
use Rattle.hb_gate.proofs.gate.Gate.end_at.Goals as goal

pub returns-in-Some-clause-streams : goal.returns-in-Some-clause-streams
returns-in-Some-clause-streams c =
    changes_here c.args.self.now.streams c.args.number c.in-Some.stream.now c.end_for.new.self (c.at.follows.lender c.end_for.new.self)
    c.in-Some.ensures.value (c.at.follows.holds c.end_for.new.self) (ended_here c.args.cause) c.end_for.ensures
