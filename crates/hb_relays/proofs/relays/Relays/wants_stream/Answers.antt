use Rattle.std.proofs.Common.{rules, ◌≡◌, Some, None}
use Rattle.std.specs.FinMap.{get}
use Rattle.hb_relays.proofs.Joined.{wants_away, wants_code}
use Rattle.hb_relays.proofs.relays.Relays.wants_stream.Goals as goal

pub returns-in-None : goal.returns-in-None
returns-in-None c =
    let none : get c.args.self.now.relays c.args.link ≡ None = search rules in
    wants_away c.args.self.now c.args.link none

pub returns-in-Some : goal.returns-in-Some
returns-in-Some c =
    let found : get c.args.self.now.relays c.args.link ≡ Some c.in-Some.relay.now = search rules in
    wants_code c.args.self.now c.args.link c.in-Some.relay.now found _ _ c.wanted.ensures (search rules)
