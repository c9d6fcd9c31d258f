use Rattle.std.proofs.Common.{◌≡◌}
use Rattle.hb_relays.specs.Stirring.{Stirs}
use Rattle.hb_relays.specs.Touched.{left_in}
use Rattle.hb_relays.specs.Walks.{KeepsShowing}
use Rattle.hb_relays.proofs.relays.Relays.gates_act.Given as goal

-- the links that were shown are shown still
abbrev pub invariant-loop-number : goal.invariant-loop-number
invariant-loop-number l = KeepsShowing l.initial.self l.self × Stirs l.initial.self l.self × (l.self.due ≡ l.initial.self.due)

abbrev pub decreases-loop-number : goal.decreases-loop-number
decreases-loop-number l = left_in l.self.gate_due
