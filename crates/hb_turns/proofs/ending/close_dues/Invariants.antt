use Rattle.std.specs.Prelude.{◌≡◌, Some, IfSome}
use Rattle.hb_turns.specs.Faults.{StaysWhole}
use Rattle.hb_turns.specs.Reckons.{Closes}
use Rattle.hb_turns.specs.Stands.{Obeys, Matches}
use Rattle.hb_turns.proofs.ending.close_dues.Given as goal

-- links were closed for this cause alone
abbrev pub invariant-loop-close : goal.invariant-loop-close
invariant-loop-close g l = record {
  ends_for : (g.N.Node.shown l.run.node).ends_for ≡ Some l.fn.cause;
  obeys : IfSome (g.W.World.trace l.fn.world) (Obeys g.N.Node.stands g.N.Node.shown l.fn.run.records)
      → IfSome (g.W.World.trace l.world) (Obeys g.N.Node.stands g.N.Node.shown l.run.records);
  keeps : IfSome (g.W.World.trace l.fn.world) (Matches g.N.Node.stands g.N.Node.shown l.fn.run)
      → IfSome (g.W.World.trace l.world) (Matches g.N.Node.stands g.N.Node.shown l.run);
  closes : Closes l.fn.cause (g.W.World.trace l.fn.world) (g.W.World.trace l.world);
  stays : StaysWhole (g.W.World.seen l.fn.world) (g.W.World.seen l.world);
}
