use Rattle.std.proofs.Common.{inl, Some, refl, sym, ◌∙◌}
use Rattle.hb_relays.proofs.Hearing.{link_hears}
use Rattle.hb_relays.proofs.relays.Relays.tell_link.Goals as goal

pub returns-in-Some-clause-hears : goal.returns-in-Some-clause-hears
returns-in-Some-clause-hears c =
    link_hears c.args.self.now _ c.next-self.result (Some c.in-Some.number) c.requires refl refl c.next-self.ensures.next
    (λ i few some was. inl was) (λ l is. sym c.in-Some.is ∙ is)

pub returns-in-None-clause-hears : goal.returns-in-None-clause-hears
returns-in-None-clause-hears c =
    link_hears c.args.self.now _ c.next-self.result c.next.result c.requires refl refl c.next-self.ensures.next
    c.next.ensures.next.others (λ l is. absurd (let no = sym c.in-None.is ∙ is in cc no))
