use Rattle.std.proofs.Common.{rules, ◌≡◌, List, [], ◌∷◌, ◌++◌, drop, refl, sym, subst}
use Rattle.hb_world.specs.declared.entry.Entry.{Entry}
use Rattle.hb_world.specs.declared.entry.Entry.TheVariants.{Wait}
use Rattle.hb_world.specs.declared.entry.Woken.TheVariants.{Glanced}
use Rattle.hb_world.proofs.HoldsLemmas.{Holds, holds-quiet}
use Rattle.hb_world.proofs.script_world.ScriptWorldWorld.glance.Goals as goal

pub invariant_of-self-2 : goal.invariant_of-self-2
invariant_of-self-2 c =
    let i = c.self.inside in
    let e : Entry = Wait [] Glanced in
    let added : c.add.new.self ≡ i.trace ++ e ∷ [] = search rules in
    subst (λ (t : List Entry). Holds i.lines t i.next i.links i.doors i.failing (drop i.told i.named.items) i.listened) (sym added)
    (holds-quiet i.lines i.trace e _ _ _ _ _ _ _ ((λ s. refl), (λ l k. refl), (λ d. refl), (λ d n. refl), refl) refl refl c.self.invariant)
