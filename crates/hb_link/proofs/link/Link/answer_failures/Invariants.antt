use Rattle.hb_link.specs.Answering.{GotFailed, Gives}
use Rattle.hb_link.specs.Settling.{Agrees}
use Rattle.hb_link.proofs.Loads.{left_from}
use Rattle.hb_link.proofs.link.Link.answer_failures.Given as goal

-- those in front of the stream got what they get
abbrev pub invariant-loop-from : goal.invariant-loop-from
invariant-loop-from g l =
    Gives Agrees (GotFailed l.from) l.initial.self (g.N.Notes.told l.initial.notes) l.self (g.N.Notes.told l.notes)

abbrev pub decreases-loop-from : goal.decreases-loop-from
decreases-loop-from g l = left_from l.from
