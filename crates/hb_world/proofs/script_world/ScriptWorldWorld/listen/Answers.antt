use Rattle.std.proofs.Common.{rules, ◌≡◌, Bool, true, false, ◌||◌, List, [], ◌∷◌, ◌++◌, drop, refl, ap, ◌∙◌, sym, subst, ℕ}
use Rattle.std.specs.List.{list_any}
use Rattle.hb_world.specs.declared.doors.ScriptDoor.{ScriptDoor}
use Rattle.hb_world.specs.declared.entry.Entry.{Entry}
use Rattle.hb_world.specs.declared.entry.Entry.TheVariants.{Balked}
use Rattle.hb_world.specs.declared.entry.Way.TheVariants.{Listen}
use Rattle.hb_world.specs.declared.world.Listened.TheVariants.{Listening, Failed}
use Rattle.hb_world.specs.Allowed.{Allowed}
use Rattle.hb_world.specs.ScriptAnswers.{is_listen, listen_answer}
use Rattle.hb_world.specs.DoorState.{door_at}
use Rattle.hb_world.specs.Script.{standing}
use Rattle.hb_world.specs.WorldState.{Keeps}
use Rattle.hb_world.proofs.AllowedLemmas.{allowed-one}
use Rattle.hb_world.proofs.DoorLemmas.{IsSet, listening-set, waiting-same}
use Rattle.hb_world.proofs.LifeLemmas.{or-true, or-false, and-false}
use Rattle.hb_world.proofs.StandingLemmas.{keeps-entry}
use Rattle.hb_world.proofs.TraceLemmas.{any-grows}
use Rattle.hb_world.proofs.script_world.ScriptWorldWorld.listen.Goals as goal

pub invariant_of-self-then-fails : goal.invariant_of-self-then-fails
invariant_of-self-then-fails c =
    let i = c.self.inside in
    let rest = drop i.told i.named.items in
    let e : Entry = Balked (Listen c.args.door c.args.at false) in
    let is : listen_answer i.lines i.trace ≡ Failed = search rules in
    let added : c.add.new.self ≡ i.trace ++ e ∷ [] = search rules in (
      subst (λ (t : List Entry). Keeps (standing i.lines t) i.lines i.next i.links i.doors i.failing rest) (sym added)
          (keeps-entry i.lines i.trace e i.next i.links i.links i.doors i.doors i.failing i.failing rest c.self.invariant.0
          (λ s. refl) (λ l. refl) (λ l. refl)
          (λ d. sym (ap (λ (b : Bool). (door_at i.doors d).listening || b) (and-false _) ∙ or-false _)) (λ d. refl) refl),
      sym (ap (λ (t : List Entry). list_any is_listen t) added ∙ any-grows is_listen i.trace e ∙ or-true _),
      subst (λ (t : List Entry). Allowed i.lines t) (sym added) (allowed-one i.lines i.trace e c.self.invariant.2 is),
    )

pub invariant_of-self-2 : goal.invariant_of-self-2
invariant_of-self-2 c =
    let i = c.self.inside in
    let rest = drop i.told i.named.items in
    let e : Entry = Balked (Listen c.args.door c.args.at true) in
    let is : listen_answer i.lines i.trace ≡ Listening = search rules in
    let added : c.add.new.self ≡ i.trace ++ e ∷ [] = search rules in
    let at : c.at-waiting.result.waiting ≡ (door_at i.doors c.args.door).waiting = ap (λ
    (x : ScriptDoor). x.waiting) c.at-waiting.ensures in
    let set : IsSet i.doors c.set.new.self c.args.door (record { listening = true; waiting = (door_at i.doors c.args.door).waiting }) =
    subst (λ (n : ℕ). IsSet i.doors c.set.new.self c.args.door (record { listening = true; waiting = n })) at c.set.ensures in (
      subst (λ (t : List Entry). Keeps (standing i.lines t) i.lines i.next i.links c.set.new.self i.failing rest) (sym added)
          (keeps-entry i.lines i.trace e i.next i.links i.links i.doors c.set.new.self i.failing i.failing rest c.self.invariant.0
          (λ s. refl) (λ l. refl) (λ l. refl) (λ d. listening-set i.doors c.set.new.self c.args.door d _ set)
          (λ d. waiting-same i.doors c.set.new.self c.args.door d true set) refl),
      sym (ap (λ (t : List Entry). list_any is_listen t) added ∙ any-grows is_listen i.trace e ∙ or-true _),
      subst (λ (t : List Entry). Allowed i.lines t) (sym added) (allowed-one i.lines i.trace e c.self.invariant.2 is),
    )
