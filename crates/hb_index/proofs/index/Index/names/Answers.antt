use Rattle.std.proofs.Common.{ap, sym, ◌∙◌}
use Rattle.std.specs.Cmp.{nat_cmp_total}
use Rattle.std.specs.FinMap as map
use Rattle.hb_index.proofs.Entries.{get_made_by}
use Rattle.hb_index.proofs.index.Index.names.Goals as goal

pub returns : goal.returns
returns c =
    c.get.ensures.value
    ∙ sym (get_made_by nat_cmp_total map.nat_cmp-IsAntisymmetric c.self.inside.items.entries c.args.number)
    ∙ ap (λ m. map.get m c.args.number) c.self.view_is
