use Rattle.std.proofs.Common.{Option, subst}
use Rattle.hb_relays.proofs.PumpedGate.{SoFar, starts, goes_one}
use Rattle.hb_relays.proofs.Stirs.{none_stirs, stirs_all_then}
use Rattle.hb_relays.proofs.relays.Relays.pump_from.Goals as goal

pub loop-from-init : goal.loop-from-init
loop-from-init g c = record {
  pumped = starts c.args.number c.args.first c.args.self.now (g.N.Notes.told c.args.notes.now);
  stirs = none_stirs c.args.self.now;
}

pub loop-from-preserved : goal.loop-from-preserved
loop-from-preserved g c = record {
  pumped =
      goes_one c.args.number c.in-Some.stream c.args.first c.pump_one-from.result c.args.self.now c.loop-from.self c.pump_one-from.new.self
      (g.N.Notes.told c.args.notes.now) (g.N.Notes.told c.loop-from.notes) (g.N.Notes.told c.pump_one-from.new.notes)
      (subst (λ (from : Option _). SoFar c.args.number c.args.first from c.args.self.now (g.N.Notes.told c.args.notes.now)
      c.loop-from.self (g.N.Notes.told c.loop-from.notes)) c.in-Some.is c.loop-from.invariant.pumped)
      c.pump_one-from.ensures.pumps;
  stirs =
      stirs_all_then c.args.self.now c.loop-from.self c.pump_one-from.new.self c.loop-from.invariant.stirs c.pump_one-from.ensures.stirs;
}

pub returns-clause-pumps : goal.returns-clause-pumps
returns-clause-pumps g c =
    subst (λ (from : Option _). SoFar c.args.number c.args.first from c.args.self.now (g.N.Notes.told c.args.notes.now)
    c.loop-from.self (g.N.Notes.told c.loop-from.notes)) c.in_default.is c.loop-from.invariant.pumped

pub returns-clause-stirs : goal.returns-clause-stirs
returns-clause-stirs g c = c.loop-from.invariant.stirs
