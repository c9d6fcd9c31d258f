use Rattle.std.proofs.Common.{Bool, sym, subst}
use Rattle.hb_gate.specs.Calls.{Offers}
use Rattle.hb_gate.proofs.Seen.{offers_shown}
use Rattle.hb_gate.proofs.gate.Gate.offers.Goals as goal

pub returns-clause-machine : goal.returns-clause-machine
returns-clause-machine c =
    subst (λ (b : Bool). Offers c.args.self.now b) (sym c.can_ask.ensures) (offers_shown c.args.self.now)
