use Rattle.std.proofs.Common.{rules, ◌≡◌, Some, refl}
use Rattle.std.specs.FinMap.{get}
use Rattle.hb_relay.specs.Calls.{any}
use Rattle.hb_world.specs.declared.entry.Entry.TheVariants as e
use Rattle.hb_relays.proofs.Entering.{up_told}
use Rattle.hb_relays.proofs.Stirs.{told_stirs}
use Rattle.hb_relays.proofs.relays.Relays.broke.Goals as goal

pub returns-in-Some-at-clause-meets : goal.returns-in-Some-at-clause-meets
returns-in-Some-at-clause-meets g c =
    let k = c.args.self.now in
    let n = c.args.number in
    let l = c.in-Some.link in
    let new = c.up_broke-made.new.self in
    let found : get k.ups n ≡ Some l = search rules in
    up_told any k c.touch.new.self _ c.up_broke-made.new.routes c.in-Some-at.relay.now new
    (g.N.Notes.told c.args.notes.now) (g.N.Notes.told c.tell.new.notes) c.up_broke-made.result c.tell.ensures
    n (e.Broke n) l c.touch.ensures (c.at.follows.holds new) found c.in-Some-at.ensures.value
    (λ x. record { up = refl; closed = refl }) (c.up_broke-made.ensures n)

pub returns-in-Some-at-clause-stirs : goal.returns-in-Some-at-clause-stirs
returns-in-Some-at-clause-stirs g c =
    told_stirs c.args.self.now c.touch.new.self _ c.up_broke-made.new.routes c.in-Some.link c.up_broke-made.new.self c.touch.ensures
    (c.at.follows.holds c.up_broke-made.new.self)
