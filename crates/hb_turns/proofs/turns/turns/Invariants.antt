use Rattle.std.specs.Prelude.{ℕ, IfSome}
use Rattle.hb_turns.specs.Faults.{StaysWhole}
use Rattle.hb_turns.specs.Leads.{LeadLaw, NotBehindLook}
use Rattle.hb_turns.specs.Looks.{Fits, Looks}
use Rattle.hb_turns.specs.Reckons.{Paid, Reckons}
use Rattle.hb_turns.specs.Stands.{Stands, IsIdle}
use Rattle.hb_turns.specs.declared.words.ServeWords.{ServeWords}
use Rattle.hb_turns.proofs.turns.turns.Given as goal

-- between two turns nothing is due, the run is kept, and no more waits were made than turns
abbrev pub invariant-loop-turn : goal.invariant-loop-turn
invariant-loop-turn g l = record {
  idle : IsIdle (g.N.Node.shown l.run.node);
  kept : IfSome (g.W.World.trace l.fn.world) (Stands g.N.Node.stands g.N.Node.shown l.fn.run)
      → IfSome (g.W.World.trace l.world) (Stands g.N.Node.stands g.N.Node.shown l.run);
  reckoned : (n : ℕ) × (Paid l._turn n l.run.records)
      × ((words : ServeWords) → IfSome (g.W.World.trace l.fn.world) (Reckons words l.fn.ticks 0 0)
      → IfSome (g.W.World.trace l.world) (Reckons words l.ticks n l._turn));
  looked : (m : ℕ) × (Fits m l.unseen l.run.records) × (IfSome (g.W.World.trace l.fn.world) (Looks 0) → IfSome (g.W.World.trace l.world) (Looks m));
  led : IfSome (g.W.World.trace l.fn.world) (Stands g.N.Node.stands g.N.Node.shown l.fn.run)
      → IfSome (g.W.World.trace l.fn.world) (NotBehindLook g.N.Node.stands g.N.Node.shown)
      → IfSome (g.W.World.trace l.world) (LeadLaw g.N.Node.stands g.N.Node.shown);
  stays : StaysWhole (g.W.World.seen l.fn.world) (g.W.World.seen l.world);
}
