use Rattle.std.specs.Prelude.{◌≡◌, ◌<◌, ◌==◌, not, ℕ, Ok}
use Rattle.std.specs.declared.alloc.AllocError.{AllocError}
use Rattle.hb_turns.specs.Faults.{StaysWhole}
use Rattle.hb_turns.specs.Reckons.{Tried}
use Rattle.hb_turns.specs.Rested.{IsDropped}
use Rattle.hb_turns.proofs.round.try_links.Given as goal

-- the tries so far
abbrev pub invariant-loop-try : goal.invariant-loop-try
invariant-loop-try g l = record {
  tried : Tried {A = ℕ} {E = AllocError} g.N.Node.stands g.N.Node.shown (not (l.made == 0)) l.made (Ok l.made) l.fn.run
      (g.W.World.trace l.fn.world) l.run (g.W.World.trace l.world);
  few : l.made < 64;
  rests : l.made ≡ 0 → IsDropped l._try l.fn.run l.run;
  stays : StaysWhole (g.W.World.seen l.fn.world) (g.W.World.seen l.world);
}
