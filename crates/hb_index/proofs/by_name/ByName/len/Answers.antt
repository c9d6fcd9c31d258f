use Rattle.std.proofs.Common.{ap, sym, ◌∙◌}
use Rattle.std.specs.FinMap as map
use Rattle.hb_index.proofs.Entries.{len_made}
use Rattle.hb_index.proofs.by_name.ByName.len.Goals as goal

pub returns-clause-value : goal.returns-clause-value
returns-clause-value g c =
    c.len.ensures.len ∙ sym (len_made c.self.inside.items.entries c.len.ensures.ordered) ∙ ap map.len c.self.view_is
