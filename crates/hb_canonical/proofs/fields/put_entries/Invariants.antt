use Rattle.std.proofs.Common.{◌≡◌, ◌++◌, take}
use Rattle.hb_canonical.specs.Fields.{entries_of}
use Rattle.hb_canonical.proofs.fields.put_entries.Given as goal

abbrev pub invariant-loop-entry : goal.invariant-loop-entry
invariant-loop-entry g l =
    l.out.items ≡ l.initial.out.items ++ entries_of l.number g.T.Canonical.spelled (take l.entry-index l.entry-items)
