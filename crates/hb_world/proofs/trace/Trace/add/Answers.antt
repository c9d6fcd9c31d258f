use Rattle.std.proofs.Common.{sym, subst}
use Rattle.hb_world.specs.Journal.{Kept}
use Rattle.hb_world.specs.Lives.{AreLives}
use Rattle.hb_world.proofs.LifeLemmas.{lives-plain}
use Rattle.hb_world.proofs.trace.Trace.add.Goals as goal

pub invariant_of-self-2 : goal.invariant_of-self-2
invariant_of-self-2 c =
    let i = c.self.inside in
    subst (λ (k : Kept). AreLives i.lives.items k.owed k.entries) (sym c.in_ok-add.ensures.ok)
    (lives-plain i.lives.items i.journal.owed i.journal.entries c.args.entry c.self.invariant c.requires)
