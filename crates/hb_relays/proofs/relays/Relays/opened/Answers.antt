use Rattle.std.proofs.Common.{rules, ◌≡◌, Some, None, refl}
use Rattle.std.specs.FinMap.{get}
use Rattle.hb_relay.specs.Answering.{routing_of as code_routing}
use Rattle.hb_relay.specs.Calls.{any}
use Rattle.hb_world.specs.declared.entry.Entry.TheVariants as e
use Rattle.hb_relays.proofs.Entering.{up_told, opened_told}
use Rattle.hb_relays.proofs.Stirs.{told_stirs}
use Rattle.hb_relays.proofs.relays.Relays.opened.Goals as goal

pub returns-clause-meets : goal.returns-clause-meets
returns-clause-meets g c =
    let k = c.args.self.now in
    let n = c.args.number in
    let l = c.in-Some.link in
    let new = c.up_opened-made.new.self in
    let found : get k.ups n ≡ Some l = search rules in
    up_told any k c.touch.new.self _ k.routes c.in-Some-at.relay.now new (g.N.Notes.told c.args.notes.now) (g.N.Notes.told c.tell.new.notes)
    (Some c.up_opened-made.result) c.tell.ensures n (e.Opened n) l c.touch.ensures (c.at.follows.holds new) found c.in-Some-at.ensures.value
    (λ x. record { up = refl; closed = refl }) (c.up_opened-made.ensures n (code_routing k.routes))

pub returns-clause-stirs : goal.returns-clause-stirs
returns-clause-stirs g c =
    told_stirs c.args.self.now c.touch.new.self _ c.args.self.now.routes c.in-Some.link c.up_opened-made.new.self c.touch.ensures
    (c.at.follows.holds c.up_opened-made.new.self)

pub returns-in_default-clause-meets : goal.returns-in_default-clause-meets
returns-in_default-clause-meets g c =
    let none : get c.args.self.now.ups c.args.number ≡ None = search rules in
    opened_told c.args.self.now c.gate_opened.new.self c.args.number (g.N.Notes.told c.args.notes.now)
    (g.N.Notes.told c.gate_opened.new.notes) none c.gate_opened.ensures.meets
