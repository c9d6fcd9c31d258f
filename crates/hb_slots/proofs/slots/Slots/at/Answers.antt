use Rattle.std.proofs.Common.{ap, sym, ◌∙◌, refl, is_some}
use Rattle.std.specs.FinMap as map
use Rattle.hb_map.proofs.Laws.{written_where_some, written_where_none}
use Rattle.slab.proofs.SlabLemmas.{Updates-with_value}
use Rattle.slab.specs.Slab.{with_value}
use Rattle.hb_slots.proofs.Joins.{at_key, none_joined, joined_write, lent_value, lent_none}
use Rattle.hb_slots.proofs.slots.Slots.at.Goals as goal

pub returns-in-Some : goal.returns-in-Some
returns-in-Some g c =
    let index = c.self.inside.index in
    let cells = c.self.inside.cells in
    let key = c.in-Some.key in
    let there = sym c.get.ensures ∙ sym c.copied.ensures ∙ c.in-Some.is in
    let full = c.self.invariant.full c.args.number key there in
    let found = at_key index cells c.self.invariant c.args.number key there in
    let lent = c.get_mut.ensures.value ∙ sym found ∙ ap (λ m. map.get m c.args.number) c.self.view_is in
    let some = sym (ap (λ m. is_some (map.get m c.args.number)) c.self.view_is) ∙ ap is_some found ∙ full in (
      (
        refl,
        (λ w.
            joined_write index cells c.self.invariant (with_value cells key w) c.args.number key there w
            (Updates-with_value cells key w full)
            ∙ ap (λ m. map.insert m c.args.number w) c.self.view_is
            ∙ sym (written_where_some c.args.self.now c.args.number w some)),
        c.self.view_is,
      ),
      record { after = tt; value = lent_value c.get_mut.result lent; none = lent_none c.get_mut.result lent },
    )

pub returns-in-None : goal.returns-in-None
returns-in-None g c =
    let index = c.self.inside.index in
    let cells = c.self.inside.cells in
    let absent = sym c.get.ensures ∙ sym c.copied.ensures ∙ c.in-None.is in
    let none = sym (ap (λ m. map.get m c.args.number) c.self.view_is) ∙ none_joined index cells c.self.invariant c.args.number absent in (
      (refl, (λ w. c.self.view_is ∙ sym (written_where_none c.args.self.now c.args.number w none)), c.self.view_is),
      record { after = tt; value = tt; none = none },
    )
