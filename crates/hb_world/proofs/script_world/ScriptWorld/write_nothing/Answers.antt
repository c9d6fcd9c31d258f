use Rattle.std.proofs.Common.{rules, ◌≡◌, ◌⊎◌, List, [], ◌++◌, drop, sym, subst}
use Rattle.hb_world.specs.declared.entry.Entry.{Entry}
use Rattle.hb_world.specs.declared.world.Wrote.TheVariants.{NoMemory}
use Rattle.hb_world.specs.Calls.{write_entries}
use Rattle.hb_world.specs.ScriptAnswers.{write_answer}
use Rattle.hb_world.specs.WorldState.{ScriptState}
use Rattle.hb_world.proofs.HoldsLemmas.{Holds, holds-unwritten}
use Rattle.hb_world.proofs.script_world.ScriptWorld.write_nothing.Goals as goal

pub invariant_of-self : goal.invariant_of-self
invariant_of-self c =
    let i = c.self.inside in
    let r = c.match-add.result in
    let many = c.requires.said.0 in
    let added : c.add.new.self ≡ i.trace ++ write_entries c.args.link [] r = search rules in
    let is : (r ≡ NoMemory) ⊎ (r ≡ c.args.answer) = search rules in
    let said : write_answer i.lines i.trace c.args.link many ≡ c.args.answer =
    subst (λ (w : ScriptState). write_answer w.lines w.trace c.args.link many ≡ c.args.answer) (sym c.self.view_is) c.requires.said.1 in
    subst (λ (t : List Entry). Holds i.lines t i.next i.links i.doors i.failing (drop i.told i.named.items) i.listened) (sym added)
    (holds-unwritten i.lines i.trace _ _ _ _ _ _ c.args.link many c.args.answer r c.requires.nothing said is
    c.self.invariant)
