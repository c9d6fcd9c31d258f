use Rattle.std.proofs.Common.{sym, subst}
use Rattle.hb_relays.specs.Calls.{DialFails}
use Rattle.hb_relays.specs.declared.relays.Relays.{Relays}
use Rattle.hb_relays.proofs.Births.{fails}
use Rattle.hb_relays.proofs.Entering.{changed_is}
use Rattle.hb_relays.proofs.Stirs.{told_stirs}
use Rattle.hb_relays.proofs.relays.Relays.dial_failed.Goals as goal

pub returns-clause-meets : goal.returns-clause-meets
returns-clause-meets g c =
    let k = c.args.self.now in
    let l = c.args.link in
    let old = c.in-Some.relay.now in
    let new = c.dial_failed-made.new.self in
    let routes = c.dial_failed-made.new.routes in
    let is = c.in-Some.ensures.value in
    let told = g.N.Notes.told c.args.notes.now in
    let now = g.N.Notes.told c.tell.new.notes in
    subst (λ (m : Relays). DialFails l k told m now)
    (sym (changed_is k c.touch.new.self _ routes l old new c.touch.ensures (c.at.follows.holds new) is))
    (fails k l old new routes told now c.dial_failed-made.result is c.dial_failed-made.ensures c.tell.ensures)

pub returns-clause-stirs : goal.returns-clause-stirs
returns-clause-stirs g c =
    told_stirs c.args.self.now c.touch.new.self _ c.dial_failed-made.new.routes c.args.link c.dial_failed-made.new.self c.touch.ensures
    (c.at.follows.holds c.dial_failed-made.new.self)
