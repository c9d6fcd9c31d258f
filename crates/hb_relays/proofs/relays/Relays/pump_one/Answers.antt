use Rattle.std.proofs.Common.{rules, ◌≡◌, Some, None}
use Rattle.std.specs.FinMap.{get}
use Rattle.hb_relays.proofs.PumpedGate.{one_away, one_free, one_pumped}
use Rattle.hb_relays.proofs.Stirs.{none_stirs}
use Rattle.hb_relays.proofs.relays.Relays.pump_one.Goals as goal

pub returns-in_default-clause-pumps : goal.returns-in_default-clause-pumps
returns-in_default-clause-pumps g c =
    let none : get c.args.self.now.gates c.args.number ≡ None = search rules in
    one_away c.args.number c.args.stream None c.args.self.now (g.N.Notes.told c.args.notes.now) none

pub returns-in_default-clause-stirs : goal.returns-in_default-clause-stirs
returns-in_default-clause-stirs g c = none_stirs c.args.self.now

pub returns-in_default-link-clause-pumps : goal.returns-in_default-link-clause-pumps
returns-in_default-link-clause-pumps g c =
    let kept = c.in-Some.gate.now in
    let is : get c.args.self.now.gates c.args.number ≡ Some kept = search rules in
    one_free c.args.number c.args.stream c.first_behind-next.result c.args.self.now (g.N.Notes.told c.args.notes.now) kept is
    c.first_behind-next.ensures c.in_default-link.ensures.machine

pub returns-in_default-link-clause-stirs : goal.returns-in_default-link-clause-stirs
returns-in_default-link-clause-stirs g c = none_stirs c.args.self.now

pub returns-in-Some-link-clause-pumps : goal.returns-in-Some-link-clause-pumps
returns-in-Some-link-clause-pumps g c =
    let kept = c.in-Some.gate.now in
    let is : get c.args.self.now.gates c.args.number ≡ Some kept = search rules in
    one_pumped c.args.number c.args.stream c.in-Some-link.link c.first_behind-next.result c.args.self.now c.pump_link.new.self
    (g.N.Notes.told c.args.notes.now) (g.N.Notes.told c.pump_link.new.notes) kept is c.first_behind-next.ensures
    c.in-Some-link.ensures.machine c.pump_link.ensures.pumps
