use Rattle.std.proofs.Common.{◌≡◌, true}
use Rattle.hb_conn.specs.Connection.{left_of}
use Rattle.hb_node.specs.Judging.{seen}
use Rattle.hb_node.specs.Phases.{is_live}
use Rattle.hb_node.specs.Links.{part_of, Goes}
use Rattle.hb_node.proofs.link.Link.take.Given as goal

-- the link lives, and looks led it on since the bytes came
abbrev pub invariant-loop : goal.invariant-loop
invariant-loop g l = (is_live l.self.phase ≡ true) × (l.self.number ≡ l.initial.self.number)
    × Goes g.J.Judge.judges l.initial.self.number (seen l.initial.held l.initial.judge) (part_of l.initial.self) (seen l.held l.judge)
    (part_of l.self)

abbrev pub decreases-loop : goal.decreases-loop
decreases-loop g l = left_of l.self.conn
