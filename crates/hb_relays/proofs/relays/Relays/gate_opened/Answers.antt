use Rattle.std.proofs.Common.{rules, ◌≡◌, None}
use Rattle.std.specs.FinMap.{get}
use Rattle.hb_world.specs.declared.entry.Entry.TheVariants as e
use Rattle.hb_relays.specs.Reaches.{any}
use Rattle.hb_relays.proofs.GateEntering.{gate_changed_is, no_gate, opens}
use Rattle.hb_relays.proofs.Stirs.{gate_told_stirs}
use Rattle.hb_relays.proofs.relays.Relays.gate_opened.Goals as goal

pub returns-clause-meets : goal.returns-clause-meets
returns-clause-meets g c =
    let k = c.args.self.now in
    let n = c.args.number in
    let new = c.opened.new.self in
    let is = c.in-Some.ensures.value in
    opens k c.touch_gate.new.self n c.in-Some.gate.now new (g.N.Notes.told c.args.notes.now) is
    (gate_changed_is k c.touch_gate.new.self _ n c.in-Some.gate.now new c.touch_gate.ensures (c.at.follows.holds new) is)
    c.opened.ensures

pub returns-clause-stirs : goal.returns-clause-stirs
returns-clause-stirs g c =
    gate_told_stirs c.args.self.now c.touch_gate.new.self _ c.args.number c.opened.new.self (c.at.follows.holds c.opened.new.self)
    c.touch_gate.ensures

pub returns-in_default-clause-meets : goal.returns-in_default-clause-meets
returns-in_default-clause-meets g c =
    let k = c.args.self.now in
    let n = c.args.number in
    let none : get k.gates n ≡ None = search rules in
    no_gate any k _ n (e.Opened n) (g.N.Notes.told c.args.notes.now) (g.N.Notes.told c.args.notes.now) none
