use Rattle.std.proofs.Common.{ap, sym, ◌∙◌}
use Rattle.std.specs.FinMap as map
use Rattle.hb_index.proofs.Entries.{get_made, made_without}
use Rattle.hb_index.proofs.by_name.ByName.take.Goals as goal

pub returns-clause-value : goal.returns-clause-value
returns-clause-value g c =
    c.remove.ensures.value ∙ sym (get_made c.self.inside.items.entries c.args.name.now)
    ∙ ap (λ m. map.get m c.args.name.now) c.self.view_is

pub returns-clause-rest : goal.returns-clause-rest
returns-clause-rest g c =
    made_without c.self.inside.items.entries c.remove.new.self.entries c.args.name.now c.remove.ensures.updates.0
    ∙ ap (λ m. map.remove m c.args.name.now) c.self.view_is
