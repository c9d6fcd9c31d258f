use Rattle.std.proofs.Common.{rules, ◌≡◌, ℕ, Option, refl, ap, sym, ◌∙◌, subst}
use Rattle.hb_counted.specs.declared.counts.Counts.{Counts}
use Rattle.hb_gate.proofs.Classed.{resets_where_none}
use Rattle.hb_gate.proofs.Resets.{ResetsTo, same_left, walk_begins, walk_goes, walk_ends}
use Rattle.hb_gate.proofs.gate.Gate.reset_ended.Goals as goal

pub returns-then-counts-eq0-clause-resets : goal.returns-then-counts-eq0-clause-resets
returns-then-counts-eq0-clause-resets c =
    let none : c.counts.result.due ≡ 0 = search rules in
    resets_where_none c.args.self.now c.counts.ensures.numbers (sym (ap (λ (c : Counts). c.due) c.counts.ensures.value) ∙ none)

pub loop-from-init : goal.loop-from-init
loop-from-init c = record {
  resets = walk_begins c.args.self.now c.first_from-from.result c.first_from-from.ensures;
  left = refl;
}

pub loop-from-preserved : goal.loop-from-preserved
loop-from-preserved c =
    let k = c.args.self.now in
    let before = c.loop-from.self in
    let after = c.reset.new.self in
    let s = c.in-Some.number in
    record {
      resets = walk_goes k before after s c.first_behind-from.result
          (subst (λ (o : Option ℕ). ResetsTo o k before) c.in-Some.is c.loop-from.invariant.resets) c.reset.ensures
          c.first_behind-from.ensures;
      left = same_left before after s c.reset.ensures ∙ c.loop-from.invariant.left;
    }

pub returns-clause-resets : goal.returns-clause-resets
returns-clause-resets c =
    walk_ends c.args.self.now c.loop-from.self
    (subst (λ (o : Option ℕ). ResetsTo o c.args.self.now c.loop-from.self) c.in_default.is c.loop-from.invariant.resets)
