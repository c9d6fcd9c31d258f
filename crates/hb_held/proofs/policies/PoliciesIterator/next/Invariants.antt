use Rattle.std.proofs.Common.{◌≡◌, length}
use Rattle.std.specs.Option.{option_copied}
use Rattle.hb_index.proofs.Behind.{behind}
use Rattle.hb_held.specs.Policies.{policies_left}
use Rattle.hb_held.proofs.policies.PoliciesIterator.next.Given as goal

-- what stands under the names passed over is for other workloads
abbrev pub invariant-loop-name : goal.invariant-loop-name
invariant-loop-name l = policies_left l.self ≡ policies_left l.fn.self

abbrev pub decreases-loop-name : goal.decreases-loop-name
decreases-loop-name l = length (behind l.self.policies.now.now (option_copied l.self.last))
