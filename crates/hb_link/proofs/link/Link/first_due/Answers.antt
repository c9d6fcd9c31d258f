use Rattle.std.proofs.Common.{rules, ◌≡◌, ap, sym, ◌∙◌}
use Rattle.hb_counted.specs.declared.counts.Counts.{Counts}
use Rattle.hb_link.proofs.Acting.{none_before_start}
use Rattle.hb_link.proofs.Classed.{none_due}
use Rattle.hb_link.proofs.link.Link.first_due.Goals as goal

pub returns-then-counts-eq0 : goal.returns-then-counts-eq0
returns-then-counts-eq0 c =
    let none : c.counts.result.due ≡ 0 = search rules in
    none_due c.args.self.now c.counts.ensures.numbers (sym (ap (λ (c : Counts). c.due) c.counts.ensures.value) ∙ none)

pub loop-from-init : goal.loop-from-init
loop-from-init c =
    none_before_start c.args.self.now c.starts.result.due c.first_from-from.result c.starts.ensures.due c.first_from-from.ensures.first
