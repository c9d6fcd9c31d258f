use Rattle.std.proofs.Common.{rules, ◌≡◌, None, sym, ◌∙◌}
use Rattle.std.specs.FinMap.{get}
use Rattle.hb_world.specs.declared.entry.Entry.TheVariants as e
use Rattle.hb_relays.specs.Reaches.{any}
use Rattle.hb_relays.proofs.GateEntering.{gate_changed_is, no_gate, went_last, went_on}
use Rattle.hb_relays.proofs.Stirs.{gate_told_stirs, stirs_all_then}
use Rattle.hb_relays.proofs.relays.Relays.gate_wrote.Goals as goal

pub returns-in_default-clause-meets : goal.returns-in_default-clause-meets
returns-in_default-clause-meets g c = λ bytes size.
    let k = c.args.self.now in
    let n = c.args.number in
    let none : get k.gates n ≡ None = search rules in
    no_gate any k _ n (e.Went n bytes) (g.N.Notes.told c.args.notes.now) (g.N.Notes.told c.args.notes.now) none

pub returns-then-last-clause-meets : goal.returns-then-last-clause-meets
returns-then-last-clause-meets g c = λ bytes size.
    let k = c.args.self.now in
    let n = c.args.number in
    let new = c.wrote.new.self in
    let is = c.in-Some.ensures.value in
    went_last k c.touch_gate.new.self n c.in-Some.gate.now new bytes (g.N.Notes.told c.args.notes.now) is
    (gate_changed_is k c.touch_gate.new.self _ n c.in-Some.gate.now new c.touch_gate.ensures (c.at.follows.holds new) is)
    (c.wrote.ensures bytes size) (sym c.last_words-last.ensures ∙ c.if-last.true)

pub returns-then-last-clause-stirs : goal.returns-then-last-clause-stirs
returns-then-last-clause-stirs g c =
    gate_told_stirs c.args.self.now c.touch_gate.new.self _ c.args.number c.wrote.new.self (c.at.follows.holds c.wrote.new.self)
    c.touch_gate.ensures

pub returns-clause-meets : goal.returns-clause-meets
returns-clause-meets g c = λ bytes size.
    let k = c.args.self.now in
    let n = c.args.number in
    let new = c.wrote.new.self in
    let is = c.in-Some.ensures.value in
    went_on k c.touch_gate.new.self n c.in-Some.gate.now new bytes (g.N.Notes.told c.args.notes.now) is
    (gate_changed_is k c.touch_gate.new.self _ n c.in-Some.gate.now new c.touch_gate.ensures (c.at.follows.holds new) is)
    (c.wrote.ensures bytes size) c.pump_gate.new.self (g.N.Notes.told c.pump_gate.new.notes)
    (sym c.last_words-last.ensures ∙ c.if-last.false) c.pump_gate.ensures.pumps

pub returns-clause-stirs : goal.returns-clause-stirs
returns-clause-stirs g c =
    stirs_all_then c.args.self.now c.touch_gate.new.self c.pump_gate.new.self
    (gate_told_stirs c.args.self.now c.touch_gate.new.self _ c.args.number c.wrote.new.self (c.at.follows.holds c.wrote.new.self)
    c.touch_gate.ensures) c.pump_gate.ensures.stirs
