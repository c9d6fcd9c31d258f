use Rattle.std.proofs.Common.{sym, ◌∙◌}
use Rattle.hb_gate.proofs.Acting.{closes}
use Rattle.hb_gate.proofs.gate.Gate.next_act.Goals as goal

pub returns : goal.returns
returns c = closes c.args.self.now c.in_ok-cause.cause (sym c.close_due.ensures ∙ c.in_ok-cause.was)
