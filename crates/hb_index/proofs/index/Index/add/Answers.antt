use Rattle.std.proofs.Common.{is_some, ap, sym, ◌∙◌}
use Rattle.std.specs.Cmp.{nat_cmp_total}
use Rattle.std.specs.FinMap as map
use Rattle.hb_index.specs.Index.{names_or_none}
use Rattle.hb_index.proofs.Entries.{get_made_by, made_with_by, put_again}
use Rattle.hb_index.proofs.Stands.{on_err}
use Rattle.hb_index.proofs.index.Index.add.Goals as goal

pub returns-in_err-insert-clause-err : goal.returns-in_err-insert-clause-err
returns-in_err-insert-clause-err c =
    let k = c.args.number in
    let es = c.self.inside.items.entries in
    let written = c.get_mut.follows.holds c.insert.new.self in
    let stood = sym (ap (λ m. map.get m k) c.self.view_is) ∙ get_made_by nat_cmp_total map.nat_cmp-IsAntisymmetric es k
    ∙ sym c.in-Some.ensures.value in
    on_err c.from_residual.result (
    made_with_by nat_cmp_total map.nat_cmp-IsAntisymmetric es _ k c.insert.new.self (written.3 (ap is_some (sym c.in-Some.ensures.value))).0
    ∙ ap (λ m. map.insert m k c.insert.new.self) c.self.view_is
    ∙ ap (map.insert c.args.self.now k) c.in_err-insert.ensures.err
    ∙ put_again nat_cmp_total map.nat_cmp-IsAntisymmetric c.args.self.now k c.in-Some.names.now stood
    )

pub returns-in-Some-clause-ok : goal.returns-in-Some-clause-ok
returns-in-Some-clause-ok c =
    let k = c.args.number in
    let es = c.self.inside.items.entries in
    let written = c.get_mut.follows.holds c.insert.new.self in
    let stood = sym (ap (λ m. map.get m k) c.self.view_is) ∙ get_made_by nat_cmp_total map.nat_cmp-IsAntisymmetric es k
    ∙ sym c.in-Some.ensures.value in
    made_with_by nat_cmp_total map.nat_cmp-IsAntisymmetric es _ k c.insert.new.self (written.3 (ap is_some (sym c.in-Some.ensures.value))).0
    ∙ ap (λ m. map.insert m k c.insert.new.self) c.self.view_is
    ∙ ap (map.insert c.args.self.now k)
    (c.in_ok-insert.ensures.ok ∙ ap (λ o. map.insert (names_or_none o) c.args.name.now tt) (sym stood))

pub returns-clause-ok : goal.returns-clause-ok
returns-clause-ok c =
    let k = c.args.number in
    let none = sym (ap (λ m. map.get m k) c.self.view_is)
    ∙ get_made_by nat_cmp_total map.nat_cmp-IsAntisymmetric c.self.inside.items.entries k ∙ sym c.in_default.ensures.value in
    made_with_by nat_cmp_total map.nat_cmp-IsAntisymmetric c.get_mut.follows.lender-at-none.entries c.insert-3.new.self.entries k
    c.insert-2.new.self c.in_ok-insert-3.ensures.updates.0
    ∙ ap (λ m. map.insert (map.from_entries m.entries) k c.insert-2.new.self) c.get_mut.follows.holds-at-none
    ∙ ap (λ m. map.insert m k c.insert-2.new.self) c.self.view_is
    ∙ ap (map.insert c.args.self.now k) (c.in_ok-insert-2.ensures.ok ∙ ap (λ s. map.insert s c.args.name.now tt)
    (c.new-names.ensures ∙ sym (ap names_or_none none)))
