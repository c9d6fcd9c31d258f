use Rattle.hb_relays.proofs.PumpedGate.{by_turns}
use Rattle.hb_relays.proofs.Stirs.{stirs_all_then}
use Rattle.hb_relays.proofs.relays.Relays.pump_gate.Goals as goal

pub returns-clause-pumps : goal.returns-clause-pumps
returns-clause-pumps g c =
    by_turns c.args.number c.first_in_turn-turn.result c.args.self.now c.pump_from.new.self c.pump_from-2.new.self
    (g.N.Notes.told c.args.notes.now) (g.N.Notes.told c.pump_from.new.notes) (g.N.Notes.told c.pump_from-2.new.notes)
    c.pump_from.ensures.pumps c.pump_from-2.ensures.pumps

pub returns-clause-stirs : goal.returns-clause-stirs
returns-clause-stirs g c =
    stirs_all_then c.args.self.now c.pump_from.new.self c.pump_from-2.new.self c.pump_from.ensures.stirs c.pump_from-2.ensures.stirs
