use Rattle.std.proofs.Common.{Bool, sym, subst}
use Rattle.hb_gate.specs.Calls.{Serves}
use Rattle.hb_gate.proofs.Seen.{serves_shown}
use Rattle.hb_gate.proofs.gate.Gate.serves.Goals as goal

pub returns : goal.returns
returns c = subst (λ (b : Bool). Serves c.args.self.now b) (sym c.is_serving.ensures) (serves_shown c.args.self.now)
