use Rattle.std.proofs.Common.{is_some, ap, sym, ◌∙◌}
use Rattle.std.specs.FinMap as map
use Rattle.hb_index.proofs.Entries.{get_made, made_with}
use Rattle.hb_index.proofs.Undone.{never}
use Rattle.hb_index.proofs.by_name.ByName.set.Goals as goal

pub returns : goal.returns
returns g c =
    let written = c.get_mut.follows.holds c.args.item in
    made_with c.self.inside.items.entries _ c.args.name.now c.args.item (written.3 (ap is_some (sym c.in-Some.ensures.value))).0
    ∙ ap (λ m. map.insert m c.args.name.now c.args.item) c.self.view_is

pub unreachable-requires : goal.unreachable-requires
unreachable-requires g c =
    never (ap is_some (c.in-None.ensures.value ∙ sym (get_made c.self.inside.items.entries c.args.name.now)
    ∙ ap (λ m. map.get m c.args.name.now) c.self.view_is) ∙ c.requires)
