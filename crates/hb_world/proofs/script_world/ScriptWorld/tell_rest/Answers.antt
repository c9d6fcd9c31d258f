use Rattle.std.proofs.Common.{rules, ◌≡◌, ℕ, ◌+◌, ◌-◌, ◌<◌, min, length, List, [], ◌∷◌, ◌++◌, drop, take, ap, ◌∙◌, sym, subst}
use Rattle.std.proofs.lemmas.List.{length-drop}
use Rattle.std.specs.List.{list_any}
use Rattle.hb_world.specs.declared.entry.Entry.{Entry}
use Rattle.hb_world.specs.declared.entry.Entry.TheVariants.{Wait}
use Rattle.hb_world.specs.declared.entry.ReadyItem.{ReadyItem}
use Rattle.hb_world.specs.declared.entry.Woken.TheVariants.{Woke}
use Rattle.hb_world.specs.Allowed.{Allowed}
use Rattle.hb_world.specs.ScriptAnswers.{is_listen}
use Rattle.hb_world.specs.Script.{standing}
use Rattle.hb_world.specs.WorldState.{Keeps, ScriptState}
use Rattle.hb_world.proofs.AllowedLemmas.{allowed-rest}
use Rattle.hb_world.proofs.LifeLemmas.{or-false}
use Rattle.hb_world.proofs.TraceLemmas.{any-grows}
use Rattle.hb_world.proofs.WaitLemmas.{keeps-told, rest-told, told-now}
use Rattle.hb_world.proofs.script_world.ScriptWorld.tell_rest.Goals as goal

pub invariant_of-self-2 : goal.invariant_of-self-2
invariant_of-self-2 c =
    let i = c.self.inside in
    let e : Entry = Wait c.in-Ok.items Woke in
    let rest = drop i.told i.named.items in
    let added : c.add.new.self ≡ i.trace ++ e ∷ [] = search rules in
    let left : c.split_at.result.1.now ≡ rest = search rules in
    let some : 0 < length (standing i.lines i.trace).rest =
    subst (λ (w : ScriptState). 0 < length (standing w.lines w.trace).rest) (sym c.self.view_is) c.requires in
    let items : c.in-Ok.items ≡ take 1024 (standing i.lines i.trace).rest =
    c.in-Ok.ensures ∙ c.split_at-2.ensures.front ∙ ap (λ (xs : List ReadyItem). take c.min-count.result xs) left
    ∙ told-now rest c.min-count.result (c.min-count.ensures ∙ ap (λ (xs : List ReadyItem). min (length xs) 1024) left)
    ∙ ap (λ (xs : List ReadyItem). take 1024 xs) c.self.invariant.0.left in
    let count : c.min-count.result ≡ min (length i.named.items - i.told) 1024 =
    c.min-count.ensures ∙ ap (λ (xs : List ReadyItem). min (length xs) 1024) left
    ∙ ap (λ (n : ℕ). min n 1024) (length-drop i.told i.named.items) in (
      subst (λ (t : List Entry). Keeps (standing i.lines t) i.lines i.next i.links i.doors i.failing
          (drop (i.told + c.min-count.result) i.named.items)) (sym added)
          (keeps-told i.lines i.trace c.in-Ok.items i.next i.links i.doors i.failing rest _ c.self.invariant.0 some
          (rest-told i.named.items i.told c.min-count.result count)),
      c.self.invariant.1
          ∙ sym (ap (λ (t : List Entry). list_any is_listen t) added ∙ any-grows is_listen i.trace e ∙ or-false _),
      subst (λ (t : List Entry). Allowed i.lines t) (sym added)
          (allowed-rest i.lines i.trace c.in-Ok.items some items c.self.invariant.2),
    )

pub returns-clause-items : goal.returns-clause-items
returns-clause-items c =
    let i = c.self.inside in
    let rest = drop i.told i.named.items in
    let left : c.split_at.result.1.now ≡ rest = search rules in
    let count : c.min-count.result ≡ min (length rest) 1024 =
    c.min-count.ensures ∙ ap (λ (xs : List ReadyItem). min (length xs) 1024) left in
    subst (λ (w : ScriptState). c.fill.new.self ≡ take 1024 (standing w.lines w.trace).rest) c.self.view_is
    (c.fill.ensures ∙ c.split_at-2.ensures.front ∙ ap (λ (xs : List ReadyItem). take c.min-count.result xs) left
    ∙ told-now rest c.min-count.result count ∙ ap (λ (xs : List ReadyItem). take 1024 xs) c.self.invariant.0.left)
