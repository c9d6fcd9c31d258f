use Rattle.std.proofs.Common.{rules, ◌≡◌, ap, sym, ◌∙◌}
use Rattle.hb_counted.specs.declared.counts.Counts.{Counts}
use Rattle.hb_gate.proofs.Classed.{told_where_none}
use Rattle.hb_gate.proofs.gate.Gate.is_told.Goals as goal

pub returns : goal.returns
returns c is =
    let none : c.counts.result.marked ≡ 0 = search rules in
    told_where_none c.args.self.now c.counts.ensures.numbers (sym (ap (λ (c : Counts). c.marked) c.counts.ensures.value) ∙ none) _ is
