use Rattle.std.proofs.Common.{refl}
use Rattle.hb_gateway.specs.Keys.{key_as}
use Rattle.hb_gate.proofs.Dialled.{begins}
use Rattle.hb_gate.proofs.gate.Gate.dialled.Goals as goal

pub returns-clause-begins : goal.returns-clause-begins
returns-clause-begins c =
    begins c.args.number (key_as c.args.key) _ refl refl c.in_ok-front.ensures c.in_ok-conn.ensures c.new-streams.ensures refl
