use Rattle.std.proofs.Common.{Option, Some, None, ℕ, List, refl, sym, ◌∙◌, subst}
use Rattle.hb_base.specs.declared.note.Note.{Note}
use Rattle.hb_links.specs.Stirring as links
use Rattle.hb_relays.specs.Stirring as relays
use Rattle.hb_turns.specs.Shown.{Hears}
use Rattle.hb_world.specs.declared.entry.Entry.{Entry}
use Rattle.hb_whole.specs.Sight.{shown_of}
use Rattle.hb_whole.specs.Stands.{Stands}
use Rattle.hb_whole.specs.declared.proxy.Proxy.{Proxy}
use Rattle.hb_whole.proofs.Limited.{only_counts}
use Rattle.hb_whole.proofs.Taking.{own_hears, doors_hear, links_silent, relays_unheard}
use Rattle.hb_whole.proofs.proxy.Proxy.next_stirred.Goals as goal

-- a proxy behind it stands for the traces that it stood for, and hears
abbrev HearsTo : Option ℕ → Proxy → Proxy → Type 0
HearsTo told p q = (notes : List Note) (trace : List Entry) → Stands notes p trace
    → Stands notes q trace × Hears trace told (shown_of p) (shown_of q)

pub returns-in-Some-clause-hears : goal.returns-in-Some-clause-hears
returns-in-Some-clause-hears c =
    let p = c.args.self.now in
    let l = c.in-Some.number in
    subst (λ (q : Proxy). HearsTo (Some l) p q) (sym c.next_own.ensures.after)
    (λ taken trace s. own_hears taken p trace l (sym c.next_own.ensures.own ∙ c.in-Some.is) s)

pub returns-in-Some-next_stirred-clause-hears : goal.returns-in-Some-next_stirred-clause-hears
returns-in-Some-next_stirred-clause-hears c =
    let p = c.args.self.now in
    let new = c.next_stirred.new.self in
    let told = c.in-Some-next_stirred.number in
    let hears : links.Hears (Some told) p.side.links new =
    subst (λ (o : Option ℕ). links.Hears o p.side.links new) c.in-Some-next_stirred.is
    (subst (λ (q : Proxy). links.Hears c.next_stirred.result q.side.links new) c.next_own.ensures.after c.next_stirred.ensures.hears) in
    let counts = only_counts p.side.links new
    (subst (λ (q : Proxy). links.OnlyHears q.side.links new) c.next_own.ensures.after c.next_stirred.ensures.same) in
    subst (λ (q : Proxy). HearsTo (Some told) p (record q { side = record q.side { links = new } })) (sym c.next_own.ensures.after)
    (λ taken trace s. doors_hear taken p new p.side.relays (Some told) trace (sym c.next_own.ensures.own ∙ c.in_default.is) hears counts
    (relays_unheard (Some told) p.side.relays) refl s)

pub returns-clause-hears : goal.returns-clause-hears
returns-clause-hears c =
    let p = c.args.self.now in
    let new = c.next_stirred.new.self in
    let behind = c.next_stirred-2.new.self in
    let result = c.next_stirred-2.result in
    let hears : links.Hears None p.side.links new =
    subst (λ (o : Option ℕ). links.Hears o p.side.links new) c.in_default-next_stirred.is
    (subst (λ (q : Proxy). links.Hears c.next_stirred.result q.side.links new) c.next_own.ensures.after c.next_stirred.ensures.hears) in
    let relays_hear : relays.Hears result p.side.relays behind =
    subst (λ (q : Proxy). relays.Hears result q.side.relays behind) c.next_own.ensures.after c.next_stirred-2.ensures.hears in
    let only : relays.OnlyHears p.side.relays behind =
    subst (λ (q : Proxy). relays.OnlyHears q.side.relays behind) c.next_own.ensures.after c.next_stirred-2.ensures.same in
    let counts = only_counts p.side.links new
    (subst (λ (q : Proxy). links.OnlyHears q.side.links new) c.next_own.ensures.after c.next_stirred.ensures.same) in
    subst (λ (q : Proxy). HearsTo result p (record q { side = record q.side { links = new; relays = behind } }))
    (sym c.next_own.ensures.after)
    (λ taken trace s. doors_hear taken p new behind result trace (sym c.next_own.ensures.own ∙ c.in_default.is)
    (links_silent result p.side.links new hears) counts relays_hear only s)
