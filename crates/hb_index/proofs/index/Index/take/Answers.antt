use Rattle.std.proofs.Common.{is_some, eq-eqb, ne_eqb, ap, sym, ◌∙◌}
use Rattle.std.specs.Prelude.{◌==◌}
use Rattle.std.specs.Cmp.{nat_cmp_total}
use Rattle.std.specs.FinMap as map
use Rattle.hb_index.proofs.Entries.{get_made_by, made_with_by, made_without_by}
use Rattle.hb_index.proofs.Stands.{nothing_less, last_less, one_less}
use Rattle.hb_index.proofs.index.Index.take.Goals as goal
use Rattle.hb_index.proofs.index.Index.take.Goals.{in-Some-1, in-None-1}

pub returns-in_default : goal.returns-in_default
returns-in_default c =
    let k = c.args.number in
    let none = sym (ap (λ m. map.get m k) c.self.view_is)
    ∙ get_made_by nat_cmp_total map.nat_cmp-IsAntisymmetric c.self.inside.items.entries k ∙ sym c.in_default.ensures.value in
    ap (λ m. map.from_entries m.entries) c.get_mut.follows.holds-at-none ∙ c.self.view_is
    ∙ sym (nothing_less c.args.self.now k c.args.name.now none)

pub returns-then-len-eq0 : goal.returns-then-len-eq0
returns-then-len-eq0 c =
    let k = c.args.number in
    let es = c.self.inside.items.entries in
    let left = c.take.new.self in
    let written = c.get_mut.follows.holds left in
    let stood = sym (ap (λ m. map.get m k) c.self.view_is) ∙ get_made_by nat_cmp_total map.nat_cmp-IsAntisymmetric es k
    ∙ sym c.in-Some.ensures.value in
    elim c.match-remove.branch [ in-Some-1 w ↦ w.self-is | in-None-1 w ↦ w.self-is ]
    ∙ made_without_by nat_cmp_total map.nat_cmp-IsAntisymmetric _ c.remove.new.self.entries k c.remove.ensures.updates.0
    ∙ ap (λ m. map.remove m k)
    (made_with_by nat_cmp_total map.nat_cmp-IsAntisymmetric es _ k left (written.3 (ap is_some (sym c.in-Some.ensures.value))).0
    ∙ ap (λ m. map.insert m k left) c.self.view_is)
    ∙ last_less c.args.self.now k c.args.name.now c.in-Some.names.now left stood c.take.ensures.rest
    (eq-eqb (map.len left) 0 (sym c.len.ensures.value ∙ c.if-len-eq0.true))

pub returns-else-len-eq0 : goal.returns-else-len-eq0
returns-else-len-eq0 c =
    let k = c.args.number in
    let es = c.self.inside.items.entries in
    let left = c.take.new.self in
    let written = c.get_mut.follows.holds left in
    let stood = sym (ap (λ m. map.get m k) c.self.view_is) ∙ get_made_by nat_cmp_total map.nat_cmp-IsAntisymmetric es k
    ∙ sym c.in-Some.ensures.value in
    made_with_by nat_cmp_total map.nat_cmp-IsAntisymmetric es _ k left (written.3 (ap is_some (sym c.in-Some.ensures.value))).0
    ∙ ap (λ m. map.insert m k left) c.self.view_is
    ∙ one_less c.args.self.now k c.args.name.now c.in-Some.names.now left stood c.take.ensures.rest
    (ap (λ n. n == 0) (sym c.len.ensures.value) ∙ ne_eqb c.len.result 0 c.if-len-eq0.false)
