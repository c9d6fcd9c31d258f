use Rattle.std.proofs.Common.{List, ℕ, ◌==◌, length, ap, ◌∙◌}
use Rattle.hb_gate.proofs.Puts.{may_put_so}
use Rattle.hb_gate.proofs.gate.Gate.may_put.Goals as goal

pub returns : goal.returns
returns c =
    may_put_so c.args.self.now c.is_empty.result (c.is_empty.ensures ∙ ap (λ (xs : List ℕ). length xs == 0) c.output.ensures)
