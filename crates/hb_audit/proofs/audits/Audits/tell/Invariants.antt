use Rattle.std.proofs.Common.{◌≡◌, ◌+◌, length, take, drop, ◌-◌, ◌≤◌}
use Rattle.hb_audit.specs.HeldBy.{answers_by}
use Rattle.hb_audit.specs.Tells.{TellsOne}
use Rattle.hb_audit.specs.Told.{told_of}
use Rattle.hb_audit.proofs.audits.Audits.tell.Given as goal

-- the audits in front of `at` are what is left of those that were told; those from there on were not told yet
abbrev pub invariant-loop-at : goal.invariant-loop-at
invariant-loop-at g l =
    record {
      told : TellsOne (answers_by g.A.Audit.notes g.A.Audit.answers)
          (take (l.at + l.dropped) l.initial.self.audits.items) (take l.at l.self.audits.items) (told_of l.n l.reason);
      rest : drop l.at l.self.audits.items ≡ drop (l.at + l.dropped) l.initial.self.audits.items;
      within : l.at ≤ length l.self.audits.items;
      all : length l.self.audits.items + l.dropped ≡ length l.initial.self.audits.items;
    }

abbrev pub decreases-loop-at : goal.decreases-loop-at
decreases-loop-at g l = length l.self.audits.items - l.at
