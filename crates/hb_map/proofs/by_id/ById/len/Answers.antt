use Rattle.std.proofs.Common.{length, ap, sym, ◌∙◌}
use Rattle.std.specs.FinMap as map
use Rattle.std.proofs.lemmas.List.{length-map}
use Rattle.hb_map.specs.Places.{numbered}
use Rattle.hb_map.proofs.Numbered.{entry}
use Rattle.hb_map.proofs.Places.{len_rising}
use Rattle.hb_map.proofs.by_id.ById.len.Goals as goal

pub returns : goal.returns
returns g c =
    let number = g.K.Key.number in
    let items = c.self.inside.items.items in
    ap length c.as_slice.ensures.value ∙ sym (length-map items (entry number))
    ∙ sym (len_rising (numbered number items) c.self.invariant) ∙ ap map.len c.self.view_is
