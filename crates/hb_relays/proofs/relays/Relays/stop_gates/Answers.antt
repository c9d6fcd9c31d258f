use Rattle.std.proofs.Common.{Option, subst}
use Rattle.hb_relays.proofs.EndingGates.{GatesEnding, gates_start, gates_go, gates_end}
use Rattle.hb_relays.proofs.Offering.{first_is}
use Rattle.hb_relays.proofs.Stirs.{none_stirs, stirs_all_then}
use Rattle.hb_relays.proofs.relays.Relays.stop_gates.Goals as goal

pub loop-from-init : goal.loop-from-init
loop-from-init c = record {
  ended = gates_start c.args.cause c.args.self.now c.first_from-from.result
      (first_is c.args.self.now.gates c.first_from-from.result c.first_from-from.ensures);
  stirs = none_stirs c.args.self.now;
}

pub loop-from-preserved : goal.loop-from-preserved
loop-from-preserved c = record {
  ended = gates_go c.args.cause c.args.self.now c.loop-from.self c.stop_gate.new.self c.in-Some.number c.next_behind-from.result
      (subst (λ (from : Option _). GatesEnding c.args.cause from c.args.self.now c.loop-from.self) c.in-Some.is c.loop-from.invariant.ended)
      c.stop_gate.ensures.stops c.next_behind-from.ensures;
  stirs = stirs_all_then c.args.self.now c.loop-from.self c.stop_gate.new.self c.loop-from.invariant.stirs c.stop_gate.ensures.stirs;
}

pub returns-clause-stops : goal.returns-clause-stops
returns-clause-stops c =
    gates_end c.args.cause c.args.self.now c.loop-from.self
    (subst (λ (from : Option _). GatesEnding c.args.cause from c.args.self.now c.loop-from.self) c.in_default.is
    c.loop-from.invariant.ended)
