use Rattle.std.proofs.Common.{rules, ◌≡◌, Some, None, refl, subst}
use Rattle.std.specs.FinMap.{get}
use Rattle.hb_world.specs.declared.entry.Entry.TheVariants as e
use Rattle.hb_gateway.specs.Part as gateway
use Rattle.hb_held.specs.Held.{Resources}
use Rattle.hb_link.proofs.Noted.{takes_none}
use Rattle.hb_proxy.specs.Points.{of_gate}
use Rattle.hb_relay.specs.Answering.{routing_of as code_routing}
use Rattle.hb_relays.proofs.Entering.{anywhere, gate_at, in_room, own_at, own_goes, on_ok, own_took, up_took, up_told}
use Rattle.hb_relays.proofs.Staying.{came_stays}
use Rattle.hb_relays.proofs.Stirs.{stirs_all_then, told_stirs}
use Rattle.hb_relays.specs.Walks.{Map}
use Rattle.hb_relays.specs.Stirring.{Stirs}
use Rattle.hb_relays.specs.Calls.{GateTakes}
use Rattle.hb_relays.specs.Reaches.{MeetsIn}
use Rattle.hb_relays.proofs.relays.Relays.took.Goals as goal

pub returns-in-Some-at-clause-meets : goal.returns-in-Some-at-clause-meets
returns-in-Some-at-clause-meets g c =
    let k = c.args.self.now in
    let n = c.args.number in
    let l = c.in-Some.link in
    let new = c.up_bytes.new.self in
    let told = g.N.Notes.told c.args.notes.now in
    let found : get k.ups n ≡ Some l = search rules in
    up_took c.args.held.now c.args.room k c.touch.new.self n l c.args.b.now told told found
    (up_told (λ (h : Resources). h ≡ c.args.held.now) k c.touch.new.self _ k.routes c.in-Some-at.relay.now new told told None
    (takes_none told) n (e.Came n c.args.b.now) l c.touch.ensures (c.at.follows.holds new) found c.in-Some-at.ensures.value
    (λ x. record { up = refl; closed = refl })
    (anywhere (λ (h : Resources). h ≡ c.args.held.now) _ c.in-Some-at.relay.now new (code_routing k.routes)
    (code_routing k.routes) None (c.up_bytes.ensures n (code_routing k.routes))))

pub returns-in-Some-at-clause-stirs : goal.returns-in-Some-at-clause-stirs
returns-in-Some-at-clause-stirs g c =
    told_stirs c.args.self.now c.touch.new.self _ c.args.self.now.routes c.in-Some.link c.up_bytes.new.self c.touch.ensures
    (c.at.follows.holds c.up_bytes.new.self)

pub returns-in_default-at-clause-meets : goal.returns-in_default-at-clause-meets
returns-in_default-at-clause-meets g c =
    let k = c.args.self.now in
    let n = c.args.number in
    let d = c.gate_took.new.self in
    let none : get k.ups n ≡ None = search rules in
    let told = g.N.Notes.told c.args.notes.now in
    let now = g.N.Notes.told c.gate_took.new.notes in
    on_ok c.gate_took.result
    (λ meets. gate_at (λ w. MeetsIn c.args.held.now c.args.room w k told d now) k n (e.Came n c.args.b.now) none
    c.in_default-at.ensures.none
    (λ some. in_room c.args.held.now c.args.room (of_gate n (gateway.entry (e.Came n c.args.b.now))) k d told now (λ z. tt)
    (λ g' x y points stands shows holds steps.
    (subst (λ (all : Map). GateTakes n c.args.b.now (record k { relays = all }) told d now) c.at-in-None.follows.holds-at-none meets)
    some g' x y points stands shows tt steps))) c.gate_took.ensures.meets

pub returns-in_default-at-clause-stirs : goal.returns-in_default-at-clause-stirs
returns-in_default-at-clause-stirs g c =
    on_ok c.gate_took.result
    (subst (λ (all : Map). Stirs (record c.args.self.now { relays = all }) c.gate_took.new.self) c.at-in-None.follows.holds-at-none)
    c.gate_took.ensures.stirs

pub returns-in_ok-join-in-None-clause-meets : goal.returns-in_ok-join-in-None-clause-meets
returns-in_ok-join-in-None-clause-meets g c =
    let k = c.args.self.now in
    let n = c.args.number in
    let bytes = c.args.b.now in
    let old = c.in-Some-at-2.relay.now in
    let new = c.take_bytes-made.new.self in
    let a = c.touch-in-None.new.self in
    let d = c.pump_link.new.self in
    let none : get k.ups n ≡ None = search rules in
    let is = c.in-Some-at-2.ensures.value in
    let told = g.N.Notes.told c.args.notes.now in
    let one = g.N.Notes.told c.tell.new.notes in
    let now = g.N.Notes.told c.pump_link.new.notes in
    own_at (λ w. MeetsIn c.args.held.now c.args.room w k told d now) k n (e.Came n bytes) old none is
    (own_took c.args.held.now c.args.room k a c.join.new.self c.refuse_roomless.new.self d n bytes told one
    (g.N.Notes.told c.refuse_roomless.new.notes) now
    (own_goes (λ h. h ≡ c.args.held.now) k a _ c.take_bytes-made.new.routes old new told one c.take_bytes-made.result c.tell.ensures n
    (λ i. e.Came i bytes) c.touch-in-None.ensures (c.at-in-None.follows.holds new) is (λ x. came_stays x.stage bytes x)
    c.take_bytes-made.ensures) c.in_ok-join-in-None.ensures.joins c.refuse_roomless.ensures.refuses c.pump_link.ensures.pumps)

pub returns-in_ok-join-in-None-clause-stirs : goal.returns-in_ok-join-in-None-clause-stirs
returns-in_ok-join-in-None-clause-stirs g c =
    let a = c.touch-in-None.new.self in
    let d = c.pump_link.new.self in
    stirs_all_then c.args.self.now a d
    (told_stirs c.args.self.now a _ c.take_bytes-made.new.routes c.args.number c.take_bytes-made.new.self c.touch-in-None.ensures
    (c.at-in-None.follows.holds c.take_bytes-made.new.self))
    (stirs_all_then a c.join.new.self d c.in_ok-join-in-None.ensures.stirs
    (stirs_all_then c.join.new.self c.refuse_roomless.new.self d c.refuse_roomless.ensures.stirs c.pump_link.ensures.stirs))
