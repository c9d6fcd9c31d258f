use Rattle.std.proofs.Common.{rules, ◌≡◌, None}
use Rattle.std.specs.FinMap.{get}
use Rattle.hb_world.specs.declared.entry.Entry.TheVariants as e
use Rattle.hb_relays.specs.Reaches.{any}
use Rattle.hb_relays.proofs.Entering.{on_ok}
use Rattle.hb_relays.proofs.GateEntering.{gate_changed_is, no_gate, takes}
use Rattle.hb_relays.proofs.Stirs.{gate_told_stirs, stirs_all_then}
use Rattle.hb_relays.proofs.relays.Relays.gate_took.Goals as goal

pub returns-clause-meets : goal.returns-clause-meets
returns-clause-meets g c =
    let k = c.args.self.now in
    let n = c.args.number in
    let new = c.take_bytes.new.self in
    let is = c.in-Some.ensures.value in
    on_ok c.look_all.result
    (takes k c.touch_gate.new.self c.look_all.new.self n c.in-Some.gate.now new c.args.b.now (g.N.Notes.told c.args.notes.now)
    (g.N.Notes.told c.look_all.new.notes) is
    (gate_changed_is k c.touch_gate.new.self _ n c.in-Some.gate.now new c.touch_gate.ensures (c.at.follows.holds new) is)
    c.take_bytes.ensures.enters c.take_bytes.ensures.fares) c.look_all.ensures.looks

pub returns-clause-stirs : goal.returns-clause-stirs
returns-clause-stirs g c =
    on_ok c.look_all.result (stirs_all_then c.args.self.now c.touch_gate.new.self c.look_all.new.self
    (gate_told_stirs c.args.self.now c.touch_gate.new.self _ c.args.number c.take_bytes.new.self
    (c.at.follows.holds c.take_bytes.new.self) c.touch_gate.ensures)) c.look_all.ensures.stirs

pub returns-in_default-clause-meets : goal.returns-in_default-clause-meets
returns-in_default-clause-meets g c =
    let k = c.args.self.now in
    let n = c.args.number in
    let none : get k.gates n ≡ None = search rules in
    no_gate any k _ n (e.Came n c.args.b.now) (g.N.Notes.told c.args.notes.now) (g.N.Notes.told c.args.notes.now) none
