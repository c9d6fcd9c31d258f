use Rattle.std.proofs.Common.{List, drop, sym, subst}
use Rattle.hb_world.specs.declared.entry.Entry.{Entry}
use Rattle.hb_world.proofs.HoldsLemmas.{Holds, holds-close}
use Rattle.hb_world.proofs.script_world.ScriptWorldWorld.close.Goals as goal

pub invariant_of-self : goal.invariant_of-self
invariant_of-self c =
    let i = c.self.inside in
    subst (λ (t : List Entry). Holds i.lines t i.next i.links i.doors i.failing (drop i.told i.named.items) i.listened)
    (sym c.close.ensures)
    (holds-close i.lines i.trace _ _ _ _ _ _ c.args.link c.args.cause c.self.invariant)
