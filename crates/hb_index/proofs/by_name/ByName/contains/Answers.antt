use Rattle.std.proofs.Common.{ap, sym, ◌∙◌, is_some}
use Rattle.std.specs.FinMap as map
use Rattle.hb_index.proofs.Entries.{get_made}
use Rattle.hb_index.proofs.by_name.ByName.contains.Goals as goal

pub returns : goal.returns
returns g c =
    c.contains_key.ensures
    ∙ ap is_some (sym (get_made c.self.inside.items.entries c.args.name.now) ∙ ap (λ m. map.get m c.args.name.now) c.self.view_is)
