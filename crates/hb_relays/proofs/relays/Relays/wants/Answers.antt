use Rattle.std.proofs.Common.{ℕ, sym, subst}
use Rattle.hb_relays.specs.Calls.{Wants}
use Rattle.hb_relays.proofs.Observing.{wants_are}
use Rattle.hb_relays.proofs.relays.Relays.wants.Goals as goal

pub returns-clause-machine : goal.returns-clause-machine
returns-clause-machine c =
    subst (λ (r : ℕ). Wants c.args.self.now c.args.number r) (sym c.wants_at.ensures) (wants_are c.args.self.now c.args.number)
