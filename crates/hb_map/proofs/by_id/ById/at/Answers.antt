use Rattle.std.proofs.Common.{ap, sym, ◌∙◌, refl}
use Rattle.std.specs.Ordering.{nat_cmp}
use Rattle.std.specs.FinMap as map
use Rattle.hb_map.specs.Keyed.{written}
use Rattle.hb_map.specs.Places.{numbered}
use Rattle.hb_map.proofs.Laws.{written_where_some, written_where_none}
use Rattle.hb_map.proofs.Numbered.{its_own, rising_set, made_set, get_at}
use Rattle.hb_map.proofs.Places.{is_there, get_in_gap}
use Rattle.hb_map.proofs.by_id.ById.at.Goals as goal

-- the entry keeps its number
pub invariant_of-self-lent : goal.invariant_of-self-lent
invariant_of-self-lent g c =
    let number = g.K.Key.number in
    let items = c.self.inside.items.items in
    let is = rw c.deref.ensures.value at c.in-Ok.ensures.found in
    let own = its_own number items _ _ c.index_mut.result.now is c.index_mut.ensures.value in
    λ w. rising_set number items c.self.invariant _ _ is c.index_mut.result.now.0 w own

pub returns-in-Ok : goal.returns-in-Ok
returns-in-Ok g c =
    let number = g.K.Key.number in
    let items = c.self.inside.items.items in
    let k = number c.args.id in
    let is = rw c.deref.ensures.value at c.in-Ok.ensures.found in
    let own = its_own number items _ _ c.index_mut.result.now is c.index_mut.ensures.value in
    let there = is_there (numbered number items) c.self.invariant _ _ is in (
      (
        refl,
        (λ w.
            made_set number items c.self.invariant _ _ is c.index_mut.result.now.0 w own
            ∙ sym (written_where_some (map.from_entries {R = nat_cmp} (numbered number items)) k w there)
            ∙ ap (λ m. written m k w) c.self.view_is),
        refl,
      ),
      record {
        after = tt;
        value = sym (ap (λ m. map.get m k) c.self.view_is)
            ∙ get_at number items c.self.invariant _ _ is c.index_mut.result.now c.index_mut.ensures.value;
        none = tt;
      },
    )

pub returns-in-Err : goal.returns-in-Err
returns-in-Err g c =
    let number = g.K.Key.number in
    let k = number c.args.id in
    let none = sym (ap (λ m. map.get m k) c.self.view_is)
    ∙ get_in_gap (numbered number c.self.inside.items.items) k _ (rw c.deref.ensures.value at c.in-Err.ensures.absent) in (
      (refl, (λ w. c.self.view_is ∙ sym (written_where_none c.args.self.now k w none)), c.self.view_is),
      record { after = tt; value = tt; none = none },
    )
