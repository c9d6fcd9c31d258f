use Rattle.std.proofs.Common.{◌≡◌, drop}
use Rattle.hb_route.specs.Ports.{port_at}
use Rattle.hb_route.proofs.ports.port_at.Given as goal

-- among the ports that are left the number is found as among all
abbrev pub invariant-loop-port : goal.invariant-loop-port
invariant-loop-port l = port_at (drop l.port-index l.ports) l.number ≡ port_at l.ports l.number
