use Rattle.std.specs.Prelude.{◌≡◌, ℕ, List, length}
use Rattle.hb_world.specs.declared.entry.Entry.{Entry}
use Rattle.hb_turns.specs.Shown.{IsSame}
use Rattle.hb_turns.specs.Stands.{Matches}
use Rattle.hb_turns.proofs.acts.take_notes.Given as goal

-- what matched a trace does, and the same is to be done
abbrev pub invariant-loop : goal.invariant-loop
invariant-loop g l = record {
  kept : (trace : List Entry) → Matches g.N.Node.stands g.N.Node.shown l.initial.run trace
      → Matches g.N.Node.stands g.N.Node.shown l.run trace;
  same : IsSame (g.N.Node.shown l.initial.run.node) (g.N.Node.shown l.run.node);
  stirs : (link : ℕ) → (g.N.Node.shown l.run.node).stirs link ≡ (g.N.Node.shown l.initial.run.node).stirs link;
  records : l.run.records ≡ l.initial.run.records;
}

abbrev pub decreases-loop : goal.decreases-loop
decreases-loop g l = length (g.N.Node.shown l.run.node).noted
