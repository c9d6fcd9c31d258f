use Rattle.std.specs.Prelude.{None}
use Rattle.hb_link.specs.Answering.{GotFailed, GotEnded, Gives}
use Rattle.hb_link.proofs.Loads.{left_from}
use Rattle.hb_link.proofs.link.Link.answer_ends.Given as goal

-- those in front of the stream got what they get
abbrev pub invariant-loop-from : goal.invariant-loop-from
invariant-loop-from g l =
    Gives (GotFailed None) (GotEnded l.from) l.initial.self (g.N.Notes.told l.initial.notes) l.self (g.N.Notes.told l.notes)

abbrev pub decreases-loop-from : goal.decreases-loop-from
decreases-loop-from g l = left_from l.from
