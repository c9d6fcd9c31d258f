use Rattle.std.proofs.Common.{◌≡◌, ℕ, true, Option, Some, subst, sym, ◌∙◌, refl}
use Rattle.std.proofs.lemmas.Bool.{eq-eqb}
use Rattle.hb_world.specs.Script.{is_number, link_of}
use Rattle.hb_world.proofs.turn.apply_to_links.Goals as goal

pub apply-requires-clause-named : goal.apply-requires-clause-named
apply-requires-clause-named c =
    let is : link_of c.args.line.now ≡ Some c.in-Some.link = sym c.named_link.ensures ∙ c.in-Some.is in
    c.requires.named c.in-Some.link
    (subst (λ (o : Option ℕ). is_number c.in-Some.link o ≡ true) (sym is) (eq-eqb c.in-Some.link c.in-Some.link refl))

pub apply-requires-clause-next : goal.apply-requires-clause-next
apply-requires-clause-next c =
    let is : link_of c.args.line.now ≡ Some c.in-Some.link = sym c.named_link.ensures ∙ c.in-Some.is in
    c.requires.next c.in-Some.link
    (subst (λ (o : Option ℕ). is_number c.in-Some.link o ≡ true) (sym is) (eq-eqb c.in-Some.link c.in-Some.link refl))
