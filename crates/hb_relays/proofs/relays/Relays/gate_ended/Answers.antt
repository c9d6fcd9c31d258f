use Rattle.std.proofs.Common.{rules, ◌≡◌, None, refl}
use Rattle.std.specs.FinMap.{get}
use Rattle.hb_world.specs.declared.entry.Entry.TheVariants as e
use Rattle.hb_relays.specs.Reaches.{any}
use Rattle.hb_relays.proofs.GateEntering.{ended_closes, ends, gate_changed_is, no_gate}
use Rattle.hb_relays.proofs.Stirs.{gate_told_stirs, stirs_all_then}
use Rattle.hb_relays.proofs.relays.Relays.gate_ended.Goals as goal

pub returns-clause-meets : goal.returns-clause-meets
returns-clause-meets g c =
    let k = c.args.self.now in
    let n = c.args.number in
    let new = c.ended.new.self in
    let is = c.in-Some.ensures.value in
    ends k c.touch_gate.new.self c.settle_gate.new.self n c.in-Some.gate.now new (g.N.Notes.told c.args.notes.now)
    (g.N.Notes.told c.settle_gate.new.notes) is
    (gate_changed_is k c.touch_gate.new.self _ n c.in-Some.gate.now new c.touch_gate.ensures (c.at.follows.holds new) is)
    c.settle_gate.ensures.settles (λ i. e.Ended i) c.ended.ensures (ended_closes n) (λ w. refl)

pub returns-clause-stirs : goal.returns-clause-stirs
returns-clause-stirs g c =
    stirs_all_then c.args.self.now c.touch_gate.new.self c.settle_gate.new.self
    (gate_told_stirs c.args.self.now c.touch_gate.new.self _ c.args.number c.ended.new.self (c.at.follows.holds c.ended.new.self)
    c.touch_gate.ensures) c.settle_gate.ensures.stirs

pub returns-in_default-clause-meets : goal.returns-in_default-clause-meets
returns-in_default-clause-meets g c =
    let k = c.args.self.now in
    let n = c.args.number in
    let none : get k.gates n ≡ None = search rules in
    no_gate any k _ n (e.Ended n) (g.N.Notes.told c.args.notes.now) (g.N.Notes.told c.args.notes.now) none
