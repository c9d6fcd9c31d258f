use Rattle.std.proofs.Common.{List, ℕ, subst}
use Rattle.hb_gate.specs.Calls.{Puts}
use Rattle.hb_relays.proofs.streams.put_waiting.Goals as goal

pub returns-clause-puts : goal.returns-clause-puts
returns-clause-puts c =
    subst (λ (bytes : List ℕ). Puts c.args.stream bytes c.put.result c.args.gate.now c.put.new.self) c.waiting.ensures.value
    c.put.ensures.puts
