use Rattle.std.proofs.Common.{ap, sym, ◌∙◌}
use Rattle.std.specs.FinMap as map
use Rattle.hb_slots.proofs.Joins.{at_key, none_joined}
use Rattle.hb_slots.proofs.slots.Slots.get.Goals as goal

pub returns-in-Some : goal.returns-in-Some
returns-in-Some g c =
    c.get-in-Some.ensures
    ∙ sym (at_key c.self.inside.index c.self.inside.cells c.self.invariant c.args.number c.in-Some.key.now (sym c.in-Some.ensures))
    ∙ ap (λ m. map.get m c.args.number) c.self.view_is

pub returns-in-None : goal.returns-in-None
returns-in-None g c =
    sym (none_joined c.self.inside.index c.self.inside.cells c.self.invariant c.args.number (sym c.in-None.ensures))
    ∙ ap (λ m. map.get m c.args.number) c.self.view_is
