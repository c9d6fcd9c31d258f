use Rattle.std.proofs.Common.{rules, ◌≡◌, ◌⊎◌, List, ◌++◌, drop, sym, subst}
use Rattle.hb_world.specs.declared.entry.Entry.{Entry}
use Rattle.hb_world.specs.declared.world.Looked.TheVariants.{NoMemory}
use Rattle.hb_world.specs.Calls.{look_entries}
use Rattle.hb_world.specs.ScriptAnswers.{look_answer}
use Rattle.hb_world.proofs.HoldsLemmas.{Holds, holds-look}
use Rattle.hb_world.proofs.script_world.ScriptWorldWorld.look.Goals as goal

pub invariant_of-self : goal.invariant_of-self
invariant_of-self c =
    let i = c.self.inside in
    let r = c.match-add.result in
    let added : c.add.new.self ≡ i.trace ++ look_entries c.args.link r = search rules in
    let is : (r ≡ NoMemory) ⊎ (r ≡ look_answer i.lines i.trace c.args.link) = search rules in
    subst (λ (t : List Entry). Holds i.lines t i.next i.links i.doors i.failing (drop i.told i.named.items) i.listened) (sym added)
    (holds-look i.lines i.trace _ _ _ _ _ _ c.args.link r is c.self.invariant)
