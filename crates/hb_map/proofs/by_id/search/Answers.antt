use Rattle.std.proofs.Common.{IfOk, IfErr, subst, rules}
use Rattle.std.proofs.lemmas.List.Sorted.{answers_always}
use Rattle.hb_map.specs.Places.{numbered, IsAt, IsGapFor}
use Rattle.hb_map.proofs.Numbered.{searched}
use Rattle.hb_map.proofs.by_id.search.Goals as goal

pub returns : goal.returns
returns g c =
    let number = g.K.Key.number in
    let items = c.args.items.now in
    let facts = c.binary_search_by_key.ensures in
    let by_number = facts.position (λ item. number item.0) (answers_always _ _ _ (λ f a r h called. search rules)) in
    let is = subst (λ k. IfOk c.binary_search_by_key.result (IsAt (numbered number items) k)
    × IfErr c.binary_search_by_key.result (IsGapFor (numbered number items) k)) c.to_u64.ensures
    (searched number items c.to_u64.result c.requires c.binary_search_by_key.result facts.bound by_number) in
    record { found = is.0; absent = is.1 }
