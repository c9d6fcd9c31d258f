use Rattle.std.proofs.Common.{Bool, sym, subst}
use Rattle.hb_gate.specs.Calls.{MayFinish}
use Rattle.hb_gate.proofs.Puts.{may_finish_so}
use Rattle.hb_gate.proofs.gate.Gate.may_finish.Goals as goal

pub returns : goal.returns
returns c =
    subst (λ (b : Bool). MayFinish c.args.stream c.args.self.now b) (sym c.can_finish.ensures)
    (may_finish_so c.args.self.now c.args.stream)
