use Rattle.hb_link.specs.Marking.{ended_tunnel}
use Rattle.hb_link.proofs.Marked.{changes_here}
use Rattle.hb_link.proofs.link.Link.end_tunnel.Goals as goal

pub returns-in-Some : goal.returns-in-Some
returns-in-Some c =
    changes_here (ended_tunnel c.args.cause) c.args.self.now c.args.stream c.in-Some.tunnel.now c.end_for.new.self
    (c.at.follows.lender c.end_for.new.self)
    c.in-Some.ensures.value (c.at.follows.holds c.end_for.new.self) c.end_for.ensures
