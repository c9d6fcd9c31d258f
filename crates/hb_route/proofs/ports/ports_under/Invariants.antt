use Rattle.std.proofs.Common.{◌≡◌, drop}
use Rattle.hb_held.specs.Endpoints.{joined}
use Rattle.hb_route.specs.Ports.{ports_under}
use Rattle.hb_route.proofs.ports.ports_under.Given as goal

-- among the entries that are left the key is found as among all
abbrev pub invariant-loop-service : goal.invariant-loop-service
invariant-loop-service l =
    ports_under (drop l.service-index l.services) (joined l.namespace l.hostname) ≡ ports_under l.services (joined l.namespace l.hostname)
