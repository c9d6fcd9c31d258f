use Rattle.std.specs.Prelude.{false, IfSome}
use Rattle.hb_turns.specs.Faults.{StaysWhole}
use Rattle.hb_turns.specs.Reckons.{Adds}
use Rattle.hb_turns.specs.Stands.{Stands}
use Rattle.hb_turns.proofs.acts.make_acts.Given as goal

-- the run is kept
abbrev pub invariant-loop-act : goal.invariant-loop-act
invariant-loop-act g l = record {
  kept : IfSome (g.W.World.trace l.fn.world) (Stands g.N.Node.stands g.N.Node.shown l.fn.run)
      → IfSome (g.W.World.trace l.world) (Stands g.N.Node.stands g.N.Node.shown l.run);
  adds : Adds false 0 (g.W.World.trace l.fn.world) (g.W.World.trace l.world);
  stays : StaysWhole (g.W.World.seen l.fn.world) (g.W.World.seen l.world);
}
