use Rattle.hb_mio.specs.Faults.{SameFaults}
use Rattle.hb_mio.proofs.watch.tell_all.Given as goal

-- no count changed so far
abbrev pub invariant-loop-event : goal.invariant-loop-event
invariant-loop-event l = SameFaults l.initial.sockets.by_number l.sockets.by_number
