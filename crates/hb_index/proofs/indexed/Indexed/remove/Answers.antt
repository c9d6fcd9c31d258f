use Rattle.std.proofs.Common.{[], ap, ◌∙◌}
use Rattle.hb_index.specs.Index.{without_all}
use Rattle.hb_index.specs.Indexed.{numbers_in}
use Rattle.hb_index.proofs.Changes.{gone_indexed, same_indexed}
use Rattle.hb_index.proofs.indexed.Indexed.remove.Goals as goal

pub invariant_of-self-2 : goal.invariant_of-self-2
invariant_of-self-2 g c =
    let numbers = g.T.Numbered.numbers in
    let name = c.args.name.now in
    let m = c.self.inside.kept.now in
    let before = c.as_slice.ensures ∙ c.in_ok-before.ensures ∙ ap (numbers_in numbers) c.get.ensures in
    same_indexed numbers _ _ _ _ c.in_ok-held.ensures.now
    (c.take_all.ensures ∙ ap (λ b. without_all c.self.inside.index name b []) before)
    (gone_indexed numbers m c.self.inside.index c.self.invariant name)
