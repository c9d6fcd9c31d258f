use Rattle.hb_link.specs.Marking.{judged_tunnel}
use Rattle.hb_link.proofs.Marked.{changes_here}
use Rattle.hb_link.proofs.link.Link.judge_tunnel.Goals as goal

pub returns-in-Some : goal.returns-in-Some
returns-in-Some c =
    changes_here (judged_tunnel c.args.held.now c.args.self.now.peer) c.args.self.now c.args.stream c.in-Some.tunnel.now c.judge.new.self
    (c.at.follows.lender c.judge.new.self)
    c.in-Some.ensures.value (c.at.follows.holds c.judge.new.self) c.judge.ensures
