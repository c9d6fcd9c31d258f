use Rattle.std.proofs.Common.{rules, ◌≡◌, Some, None, refl, subst}
use Rattle.std.specs.FinMap.{get}
use Rattle.hb_relay.specs.Calls.{any}
use Rattle.hb_world.specs.declared.entry.Entry.TheVariants as e
use Rattle.hb_relays.specs.Reaches.{any as anything}
use Rattle.hb_relays.proofs.Entering.{gate_told, own_goes, own_pumped, own_told, up_told, went_begun}
use Rattle.hb_relays.proofs.Stirs.{stirs_all_then, told_stirs}
use Rattle.hb_relays.specs.Walks.{Map}
use Rattle.hb_relays.specs.Stirring.{Stirs}
use Rattle.hb_relays.specs.Calls.{GateGoes}
use Rattle.hb_relays.proofs.relays.Relays.wrote.Goals as goal

pub returns-in-Some-at-clause-meets : goal.returns-in-Some-at-clause-meets
returns-in-Some-at-clause-meets g c = λ bytes size.
    let k = c.args.self.now in
    let n = c.args.number in
    let l = c.in-Some.link in
    let new = c.up_wrote-made.new.self in
    let found : get k.ups n ≡ Some l = search rules in
    up_told any k c.touch.new.self _ c.up_wrote-made.new.routes c.in-Some-at.relay.now new
    (g.N.Notes.told c.args.notes.now) (g.N.Notes.told c.tell.new.notes) c.up_wrote-made.result c.tell.ensures
    n (e.Went n bytes) l c.touch.ensures (c.at.follows.holds new) found c.in-Some-at.ensures.value
    (λ x. record { up = refl; closed = refl }) (c.up_wrote-made.ensures n bytes size)

pub returns-in-Some-at-clause-stirs : goal.returns-in-Some-at-clause-stirs
returns-in-Some-at-clause-stirs g c =
    told_stirs c.args.self.now c.touch.new.self _ c.up_wrote-made.new.routes c.in-Some.link c.up_wrote-made.new.self c.touch.ensures
    (c.at.follows.holds c.up_wrote-made.new.self)

pub returns-in-Some-at-2-clause-meets : goal.returns-in-Some-at-2-clause-meets
returns-in-Some-at-2-clause-meets g c = λ bytes size.
    let k = c.args.self.now in
    let n = c.args.number in
    let new = c.wrote-made.new.self in
    let none : get k.ups n ≡ None = search rules in
    let told = g.N.Notes.told c.args.notes.now in
    let one = g.N.Notes.told c.tell-in-None.new.notes in
    let now = g.N.Notes.told c.pump_link.new.notes in
    let at = c.touch-in-None.new.self in
    own_told anything k c.pump_link.new.self n (e.Went n bytes) c.in-Some-at-2.relay.now told now none c.in-Some-at-2.ensures.value
    (own_pumped any k at c.pump_link.new.self n (e.Went n bytes) told one now refl (went_begun n bytes)
    (own_goes any k at _ c.wrote-made.new.routes c.in-Some-at-2.relay.now new told one c.wrote-made.result c.tell-in-None.ensures n
    (λ i. e.Went i bytes) c.touch-in-None.ensures (c.at-in-None.follows.holds new) c.in-Some-at-2.ensures.value
    (λ x. record { up = refl; closed = refl }) (c.wrote-made.ensures bytes size))
    c.pump_link.ensures.pumps)

pub returns-in-Some-at-2-clause-stirs : goal.returns-in-Some-at-2-clause-stirs
returns-in-Some-at-2-clause-stirs g c =
    stirs_all_then c.args.self.now c.touch-in-None.new.self c.pump_link.new.self
    (told_stirs c.args.self.now c.touch-in-None.new.self _ c.wrote-made.new.routes c.args.number c.wrote-made.new.self
    c.touch-in-None.ensures (c.at-in-None.follows.holds c.wrote-made.new.self)) c.pump_link.ensures.stirs

pub returns-in_default-at-clause-meets : goal.returns-in_default-at-clause-meets
returns-in_default-at-clause-meets g c = λ bytes size.
    let k = c.args.self.now in
    let n = c.args.number in
    let none : get k.ups n ≡ None = search rules in
    let told = g.N.Notes.told c.args.notes.now in
    let now = g.N.Notes.told c.gate_wrote.new.notes in
    gate_told anything k c.gate_wrote.new.self n (e.Went n bytes) told now none c.in_default-at.ensures.none
    (subst (λ (all : Map). GateGoes n c.args.count (record k { relays = all }) told c.gate_wrote.new.self now)
    c.at-in-None.follows.holds-at-none c.gate_wrote.ensures.meets bytes size)

pub returns-in_default-at-clause-stirs : goal.returns-in_default-at-clause-stirs
returns-in_default-at-clause-stirs g c =
    subst (λ (all : Map). Stirs (record c.args.self.now { relays = all }) c.gate_wrote.new.self) c.at-in-None.follows.holds-at-none
    c.gate_wrote.ensures.stirs
