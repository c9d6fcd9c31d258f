use Rattle.std.proofs.Common.{rules, ◌≡◌, ◌⊎◌, List, ◌++◌, drop, sym, subst}
use Rattle.hb_world.specs.declared.entry.Entry.{Entry}
use Rattle.hb_world.specs.declared.world.Finished.TheVariants.{NoMemory}
use Rattle.hb_world.specs.Calls.{finish_entries}
use Rattle.hb_world.specs.ScriptAnswers.{finish_answer}
use Rattle.hb_world.proofs.HoldsLemmas.{Holds, holds-finish}
use Rattle.hb_world.proofs.script_world.ScriptWorldWorld.finish.Goals as goal

pub invariant_of-self : goal.invariant_of-self
invariant_of-self c =
    let i = c.self.inside in
    let r = c.match-add.result in
    let added : c.add.new.self ≡ i.trace ++ finish_entries c.args.link r = search rules in
    let is : (r ≡ NoMemory) ⊎ (r ≡ finish_answer i.lines i.trace c.args.link) = search rules in
    subst (λ (t : List Entry). Holds i.lines t i.next i.links i.doors i.failing (drop i.told i.named.items) i.listened) (sym added)
    (holds-finish i.lines i.trace _ _ _ _ _ _ c.args.link r is c.self.invariant)
