use Rattle.std.specs.Prelude.{IfSome}
use Rattle.hb_ready.specs.Registry.{kept}
use Rattle.hb_turns.specs.Faults.{StaysWhole}
use Rattle.hb_turns.specs.Reckons.{Closes}
use Rattle.hb_turns.specs.Stands.{Obeys, StandsAlone}
use Rattle.hb_turns.proofs.ending.close_all.Given as goal

-- links were closed for this cause alone
abbrev pub invariant-loop-cause : goal.invariant-loop-cause
invariant-loop-cause g l = record {
  obeys : IfSome (g.W.World.trace l.initial.world) (Obeys g.N.Node.stands g.N.Node.shown l.initial.run.records)
      → IfSome (g.W.World.trace l.world) (Obeys g.N.Node.stands g.N.Node.shown l.run.records);
  alone : IfSome (g.W.World.trace l.initial.world) (StandsAlone g.N.Node.stands g.N.Node.shown l.initial.run)
      → IfSome (g.W.World.trace l.world) (StandsAlone g.N.Node.stands g.N.Node.shown l.run);
  closes : Closes l.cause (g.W.World.trace l.initial.world) (g.W.World.trace l.world);
  stays : StaysWhole (g.W.World.seen l.initial.world) (g.W.World.seen l.world);
}

abbrev pub decreases-loop-cause : goal.decreases-loop-cause
decreases-loop-cause g l = (kept l.run.records.links).count
