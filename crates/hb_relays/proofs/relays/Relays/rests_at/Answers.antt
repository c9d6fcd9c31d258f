use Rattle.std.proofs.Common.{◌≡◌, Some, rules}
use Rattle.std.specs.FinMap.{get}
use Rattle.hb_relays.proofs.PumpedLink.{rests_there}
use Rattle.hb_relays.proofs.relays.Relays.rests_at.Goals as goal

pub returns : goal.returns
returns c =
    let k = c.args.self.now in
    let found : get k.relays c.args.link ≡ Some c.in-Some.relay.now = search rules in
    let gate : get k.gates c.args.number ≡ Some c.in-Some-get.gate.now = search rules in
    rests_there k c.args.link c.args.number c.in-Some.relay.now c.in-Some-get.gate.now c.rests.result found gate c.rests.ensures
