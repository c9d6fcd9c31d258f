use Rattle.std.proofs.Common.{ap, sym, ◌∙◌}
use Rattle.std.specs.FinMap as map
use Rattle.hb_index.proofs.Entries.{entries_made}
use Rattle.hb_index.proofs.by_name.ByName.iter.Goals as goal

pub returns-clause-rest : goal.returns-clause-rest
returns-clause-rest g c =
    c.iter.ensures.rest ∙ sym (entries_made c.self.inside.items.entries c.iter.ensures.ordered) ∙ ap map.entries c.self.view_is
