use Rattle.std.proofs.Common.{◌≡◌}
use Rattle.std.specs.Io.KnownBytes.{Keeps}
use Rattle.hb_base.proofs.std_source.StdSourceSource.take.Given as goal

-- reads that were interrupted changed nothing
abbrev pub invariant-loop : goal.invariant-loop
invariant-loop g l = record {
  same : l.self-inside.faults ≡ l.initial.self-inside.faults;
  kept : Keeps (g.R.Read.remaining l.initial.self-inside.reader) (g.R.Read.remaining l.self-inside.reader);
}
