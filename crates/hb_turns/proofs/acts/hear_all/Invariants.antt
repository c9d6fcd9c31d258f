use Rattle.std.specs.Prelude.{◌≡◌, List}
use Rattle.hb_world.specs.declared.entry.Entry.{Entry}
use Rattle.hb_turns.specs.Shown.{IsSame}
use Rattle.hb_turns.specs.Stands.{Stands}
use Rattle.hb_turns.proofs.acts.hear_all.Given as goal

-- the run is kept, and the same is to be done
abbrev pub invariant-loop-told : goal.invariant-loop-told
invariant-loop-told g l = record {
  kept : (trace : List Entry) → Stands g.N.Node.stands g.N.Node.shown l.fn.run trace
      → Stands g.N.Node.stands g.N.Node.shown l.run trace;
  same : IsSame (g.N.Node.shown l.fn.run.node) (g.N.Node.shown l.run.node);
  noted : (g.N.Node.shown l.run.node).noted ≡ (g.N.Node.shown l.fn.run.node).noted;
}
