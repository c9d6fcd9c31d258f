use Rattle.std.proofs.Common.{◌≡◌}
use Rattle.hb_hpack.specs.Table.{total, fitting}
use Rattle.hb_hpack.proofs.dynamic_table.evict.Given as goal

abbrev pub invariant-loop-size : goal.invariant-loop-size
invariant-loop-size l = record {
  sum : l.size ≡ total l.entries.items;
  same : fitting l.limit l.entries.items ≡ fitting l.limit l.initial.entries.items;
}

abbrev pub decreases-loop-size : goal.decreases-loop-size
decreases-loop-size l = l.size
