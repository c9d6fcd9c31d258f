use Rattle.std.proofs.Common.{Bool, ◌+◌, min, length}
use Rattle.hb_node.specs.Judging.{Seen, seen}
use Rattle.hb_node.specs.Inbox.{TakesAll}
use Rattle.hb_node.specs.declared.inbox.Inbox.{Inbox as Box}
use Rattle.hb_node.proofs.inbox.Inbox.take_chunk.Given as goal

-- what is made of what is left is made of all
abbrev pub invariant-loop-taken : goal.invariant-loop-taken
invariant-loop-taken g l = (whole : Bool) (after : Seen _) (box : Box)
    → TakesAll g.J.Judge.judges (seen l.held l.judge) l.self l.left whole after box
    → TakesAll g.J.Judge.judges (seen l.initial.held l.initial.judge) l.initial.self l.chunk whole after box

abbrev pub decreases-loop-taken : goal.decreases-loop-taken
decreases-loop-taken g l = length l.left + min 1 (length l.self.framer.held)
