use Rattle.std.proofs.Common.{Bool, sym, subst}
use Rattle.hb_relays.specs.Calls.{Has}
use Rattle.hb_relays.proofs.Hearing.{has_is}
use Rattle.hb_relays.proofs.relays.Relays.has.Goals as goal

pub returns-clause-machine : goal.returns-clause-machine
returns-clause-machine c =
    subst (λ (r : Bool). Has c.args.self.now c.args.number r) (sym c.has_at.ensures) (has_is c.args.self.now c.args.number)
