use Rattle.std.proofs.Common.{◌≡◌, length}
use Rattle.hb_held.specs.Endpoints.{entries_left, endpoints_left}
use Rattle.hb_held.proofs.endpoints.EndpointsIterator.next.Given as goal

-- what stands under the names passed over doesn't serve the service
abbrev pub invariant-loop-name : goal.invariant-loop-name
invariant-loop-name l = endpoints_left l.self ≡ endpoints_left l.fn.self

abbrev pub decreases-loop-name : goal.decreases-loop-name
decreases-loop-name l = length (entries_left l.self.names)
