use Rattle.std.proofs.Common.{refl, subst}
use Rattle.hb_relay.specs.Answering.{routing_of as code_routing}
use Rattle.hb_relay.specs.Calls as calls
use Rattle.hb_world.specs.declared.entry.Entry.TheVariants as e
use Rattle.hb_relays.specs.Calls.{GateEnters}
use Rattle.hb_relays.specs.Reaches.{any}
use Rattle.hb_relays.specs.Stirring.{Stirs}
use Rattle.hb_relays.specs.Walks.{Map}
use Rattle.hb_relays.proofs.Breaking.{broke_raw, own_broke}
use Rattle.hb_relays.proofs.Entering.{changed_is, gate_told, own_goes, own_told}
use Rattle.hb_relays.proofs.Forsaking.{own_left}
use Rattle.hb_relays.proofs.Stirs.{stirs_all_then, told_stirs}
use Rattle.hb_relays.proofs.relays.Relays.link_broke.Goals as goal

pub returns-in_default-clause-meets : goal.returns-in_default-clause-meets
returns-in_default-clause-meets g c = λ none.
    let k = c.args.self.now in
    let n = c.args.number in
    let told = g.N.Notes.told c.args.notes.now in
    let now = g.N.Notes.told c.gate_broke.new.notes in
    gate_told any k c.gate_broke.new.self n (e.Broke n) told now none c.in_default.ensures.none
    (subst (λ (all : Map). GateEnters n (e.Broke n) (record k { relays = all }) told c.gate_broke.new.self now)
    c.at.follows.holds-at-none c.gate_broke.ensures.meets)

pub returns-in_default-clause-stirs : goal.returns-in_default-clause-stirs
returns-in_default-clause-stirs g c =
    subst (λ (all : Map). Stirs (record c.args.self.now { relays = all }) c.gate_broke.new.self) c.at.follows.holds-at-none
    c.gate_broke.ensures.stirs

pub returns-in_default-stream-clause-meets : goal.returns-in_default-stream-clause-meets
returns-in_default-stream-clause-meets g c = λ none.
    let k = c.args.self.now in
    let n = c.args.number in
    let old = c.in-Some.relay.now in
    let new = c.broke-made.new.self in
    let m = c.touch.new.self in
    let told = g.N.Notes.told c.args.notes.now in
    let now = g.N.Notes.told c.tell.new.notes in
    own_told any k m n (e.Broke n) old told now none c.in-Some.ensures.value
    (own_broke k m n old told now c.in-Some.ensures.value c.in_default-stream.ensures
    (own_goes calls.any k m _ c.broke-made.new.routes old new told now c.broke-made.result c.tell.ensures n (λ i. e.Broke i)
    c.touch.ensures (c.at.follows.holds new) c.in-Some.ensures.value (λ x. record { up = refl; closed = refl })
    (broke_raw old new (code_routing k.routes) (code_routing c.broke-made.new.routes) c.broke-made.result c.broke-made.ensures
    c.in_default-stream.ensures)))

pub returns-in_default-stream-clause-stirs : goal.returns-in_default-stream-clause-stirs
returns-in_default-stream-clause-stirs g c =
    told_stirs c.args.self.now c.touch.new.self _ c.broke-made.new.routes c.args.number c.broke-made.new.self c.touch.ensures
    (c.at.follows.holds c.broke-made.new.self)

pub returns-clause-meets : goal.returns-clause-meets
returns-clause-meets g c = λ none.
    let k = c.args.self.now in
    let n = c.args.number in
    let old = c.in-Some.relay.now in
    let new = c.broke-made-2.new.self in
    let routes = c.broke-made-2.new.routes in
    let a = c.touch-2.new.self in
    let d = c.pump_gate.new.self in
    let told = g.N.Notes.told c.args.notes.now in
    let one = g.N.Notes.told c.tell-2.new.notes in
    let now = g.N.Notes.told c.pump_gate.new.notes in
    let is = c.in-Some.ensures.value in
    own_told any k d n (e.Broke n) old told now none is
    (own_left k a c.give_up.new.self d n c.in-Some-stream.gate c.in-Some-stream.stream c.begun_on-begun.result old new routes
    c.broke-made-2.result told one now is c.in-Some-stream.ensures c.begun_on-begun.ensures c.broke-made-2.ensures
    (changed_is k a _ routes n old new c.touch-2.ensures (c.at.follows.holds new) is) c.tell-2.ensures c.give_up.ensures.gives
    c.pump_gate.ensures.pumps)

pub returns-clause-stirs : goal.returns-clause-stirs
returns-clause-stirs g c =
    stirs_all_then c.args.self.now c.touch-2.new.self c.pump_gate.new.self
    (told_stirs c.args.self.now c.touch-2.new.self _ c.broke-made-2.new.routes c.args.number c.broke-made-2.new.self c.touch-2.ensures
    (c.at.follows.holds c.broke-made-2.new.self))
    (stirs_all_then c.touch-2.new.self c.give_up.new.self c.pump_gate.new.self c.give_up.ensures.stirs c.pump_gate.ensures.stirs)
