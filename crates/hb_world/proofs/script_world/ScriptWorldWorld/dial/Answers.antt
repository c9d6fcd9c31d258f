use Rattle.std.proofs.Common.{rules, ◌≡◌, ◌+◌, ◌-◌, List, [], ◌∷◌, ◌++◌, drop, refl, sym, subst}
use Rattle.hb_world.specs.declared.entry.Entry.{Entry}
use Rattle.hb_world.specs.declared.entry.Entry.TheVariants.{Dialled, DialFailed}
use Rattle.hb_world.specs.declared.world.Born.TheVariants.{New, Failed}
use Rattle.hb_world.specs.ScriptAnswers.{dial_answer}
use Rattle.hb_world.proofs.HoldsLemmas.{Holds, holds-quiet}
use Rattle.hb_world.proofs.script_world.ScriptWorldWorld.dial.Goals as goal

pub invariant_of-self-then-self-ne0 : goal.invariant_of-self-then-self-ne0
invariant_of-self-then-self-ne0 c =
    let i = c.self.inside in
    let left = c.saturating_sub-self-inside.result in
    let added : c.add.new.self ≡ i.trace ++ DialFailed c.args.to c.args.why ∷ [] = search rules in
    let is : dial_answer i.lines i.trace ≡ Failed = search rules in
    let fails : left ≡ i.failing - 1 = search rules in
    subst (λ (t : List Entry). Holds i.lines t i.next i.links i.doors left (drop i.told i.named.items) i.listened) (sym added)
    (holds-quiet i.lines i.trace (DialFailed c.args.to c.args.why) _ _ _ _ _ _ _
    (λ s. refl, λ l k. refl, λ d. refl, λ d n. refl, refl) fails is c.self.invariant)

pub invariant_of-self-2 : goal.invariant_of-self-2
invariant_of-self-2 c =
    let i = c.self.inside in
    let link = c.births-births.result + 1 in
    let added : c.add_birth.new.self ≡ i.trace ++ Dialled link c.args.to c.args.why ∷ [] = search rules in
    let is : dial_answer i.lines i.trace ≡ New link = search rules in
    let fails : i.failing ≡ i.failing - 1 = search rules in
    subst (λ (t : List Entry). Holds i.lines t i.next i.links i.doors i.failing (drop i.told i.named.items) i.listened) (sym added)
    (holds-quiet i.lines i.trace (Dialled link c.args.to c.args.why) _ _ _ _ _ _ _
    (λ s. refl, λ l k. refl, λ d. refl, λ d n. refl, refl) fails is c.self.invariant)
