use Rattle.std.proofs.Common.{◌≤◌, length}
use Rattle.hb_conn.specs.Receiving.{Receives, LacksBlock}
use Rattle.hb_conn.specs.declared.receiver.Receiver.{Receiver}
use Rattle.hb_conn.specs.declared.found.Found.{Found}
use Rattle.hb_conn.proofs.receiver.Receiver.receive.Given as goal

abbrev pub invariant-loop-self : goal.invariant-loop-self
invariant-loop-self l = record {
  later : (new : Receiver) (found : Found) → Receives l.self new found → Receives l.fn.self new found;
  lacks : LacksBlock l.self → LacksBlock l.fn.self;
  within : length l.self.reader.held ≤ length l.fn.self.reader.held;
}

abbrev pub decreases-loop-self : goal.decreases-loop-self
decreases-loop-self l = length l.self.reader.held
