use Rattle.std.proofs.Common.{◌≡◌}
use Rattle.std.specs.Io.KnownBytes.{Keeps}
use Rattle.hb_base.proofs.std_sink.StdSinkSink.put.Given as goal

-- writes that were interrupted changed nothing
abbrev pub invariant-loop : goal.invariant-loop
invariant-loop g l = record {
  same : l.self-inside.faults ≡ l.initial.self-inside.faults;
  kept : Keeps (g.W.Write.contents l.initial.self-inside.writer) (g.W.Write.contents l.self-inside.writer);
}
