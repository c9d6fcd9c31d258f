use Rattle.std.proofs.Common.{rules, ◌≡◌, ◌+◌, ◌-◌, List, [], ◌∷◌, ◌++◌, drop, refl, ap, ◌∙◌, sym, subst, inl, inr}
use Rattle.std.specs.List.{list_any}
use Rattle.hb_world.specs.declared.doors.ScriptDoor.{ScriptDoor}
use Rattle.hb_world.specs.declared.entry.Entry.{Entry}
use Rattle.hb_world.specs.declared.entry.Entry.TheVariants as v
use Rattle.hb_world.specs.declared.entry.Way.TheVariants.{Accept}
use Rattle.hb_world.specs.declared.world.Born.TheVariants.{New, Balked, Failed}
use Rattle.hb_world.specs.Allowed.{Allowed}
use Rattle.hb_world.specs.DoorState.{door_at}
use Rattle.hb_world.specs.ScriptAnswers.{is_listen, accept_answer}
use Rattle.hb_world.specs.Script.{standing}
use Rattle.hb_world.specs.WorldState.{Keeps}
use Rattle.hb_world.proofs.AllowedLemmas.{allowed-one}
use Rattle.hb_world.proofs.DoorLemmas.{IsSet, listening-same, waiting-less}
use Rattle.hb_world.proofs.HoldsLemmas.{Holds, holds-quiet}
use Rattle.hb_world.proofs.LifeLemmas.{or-false}
use Rattle.hb_world.proofs.StandingLemmas.{keeps-entry}
use Rattle.hb_world.proofs.TraceLemmas.{any-grows}
use Rattle.hb_world.proofs.script_world.ScriptWorldWorld.accept.Goals as goal

pub invariant_of-self-then-at_door-eq0-2 : goal.invariant_of-self-then-at_door-eq0-2
invariant_of-self-then-at_door-eq0-2 c =
    let i = c.self.inside in
    let added : c.add.new.self ≡ i.trace ++ v.Balked (Accept c.args.door) ∷ [] = search rules in
    let is : accept_answer i.lines i.trace c.args.door ≡ Balked = search rules in
    subst (λ (t : List Entry). Holds i.lines t i.next i.links i.doors i.failing (drop i.told i.named.items) i.listened) (sym added)
    (holds-quiet i.lines i.trace (v.Balked (Accept c.args.door)) _ _ _ _ _ _ _
    (λ s. refl, λ l k. refl, λ d. refl, λ d n. refl, refl) refl (inl is) c.self.invariant)

pub invariant_of-self-then-at_door-eq0 : goal.invariant_of-self-then-at_door-eq0
invariant_of-self-then-at_door-eq0 c =
    let i = c.self.inside in
    let added : c.add.new.self ≡ i.trace ++ v.Balked (Accept c.args.door) ∷ [] = search rules in
    let is : accept_answer i.lines i.trace c.args.door ≡ Failed = search rules in
    subst (λ (t : List Entry). Holds i.lines t i.next i.links i.doors i.failing (drop i.told i.named.items) i.listened) (sym added)
    (holds-quiet i.lines i.trace (v.Balked (Accept c.args.door)) _ _ _ _ _ _ _
    (λ s. refl, λ l k. refl, λ d. refl, λ d n. refl, refl) refl (inr is) c.self.invariant)

pub invariant_of-self-2 : goal.invariant_of-self-2
invariant_of-self-2 c =
    let i = c.self.inside in
    let rest = drop i.told i.named.items in
    let link = c.births-births.result + 1 in
    let e : Entry = v.Accepted link c.args.door in
    let is : accept_answer i.lines i.trace c.args.door ≡ New link = search rules in
    let added : c.add_birth.new.self ≡ i.trace ++ e ∷ [] = search rules in
    let set : IsSet i.doors c.set.new.self c.args.door (record {
      listening = (door_at i.doors c.args.door).listening;
      waiting = (door_at i.doors c.args.door).waiting - 1;
    }) =
    subst (λ (x : ScriptDoor). IsSet i.doors c.set.new.self c.args.door (record { listening = x.listening; waiting = x.waiting - 1 }))
    c.at-at_door.ensures c.set.ensures in (
      subst (λ (t : List Entry). Keeps (standing i.lines t) i.lines i.next i.links c.set.new.self i.failing rest) (sym added)
          (keeps-entry i.lines i.trace e i.next i.links i.links i.doors c.set.new.self i.failing i.failing rest c.self.invariant.0
          (λ s. refl) (λ l. refl) (λ l. refl) (λ d. listening-same i.doors c.set.new.self c.args.door d _ set)
          (λ d. waiting-less i.doors c.set.new.self c.args.door d _ set) refl),
      c.self.invariant.1
          ∙ sym (ap (λ (t : List Entry). list_any is_listen t) added ∙ any-grows is_listen i.trace e ∙ or-false _),
      subst (λ (t : List Entry). Allowed i.lines t) (sym added)
          (allowed-one i.lines i.trace e c.self.invariant.2 is),
    )
