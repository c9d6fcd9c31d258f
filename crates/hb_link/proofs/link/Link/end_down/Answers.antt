use Rattle.hb_link.specs.Marking.{down_ended_tunnel}
use Rattle.hb_link.proofs.Marked.{changes_here}
use Rattle.hb_link.proofs.link.Link.end_down.Goals as goal

pub returns-in-Some : goal.returns-in-Some
returns-in-Some c =
    changes_here (down_ended_tunnel) c.args.self.now c.args.stream c.in-Some.tunnel.now c.end_down.new.self
    (c.at.follows.lender c.end_down.new.self)
    c.in-Some.ensures.value (c.at.follows.holds c.end_down.new.self) c.end_down.ensures
