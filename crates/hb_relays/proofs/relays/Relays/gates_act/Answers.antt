use Rattle.std.proofs.Common.{Some, refl, ap, ◌∙◌}
use Rattle.hb_relays.specs.Stirring.{closed_in}
use Rattle.hb_relays.specs.declared.relays.Relays.{Relays}
use Rattle.hb_relays.proofs.Stirs.{none_stirs, any_stirs, stirs_all_then, stirs_but_then}
use Rattle.hb_relays.proofs.Walking.{goes_gate_stirs, gates_on, gate_given, gates_end}
use Rattle.hb_relays.proofs.relays.Relays.gates_act.Goals as goal

pub loop-number-init : goal.loop-number-init
loop-number-init c = (λ g x points stands shows. shows, none_stirs c.args.self.now, refl)

pub loop-number-preserved : goal.loop-number-preserved
loop-number-preserved c =
    let first = c.args.self.now in
    let old = c.loop-number.self in
    let mid = c.next_gate_due.new.self in
    let asked = c.gate_act.new.self in
    let acts = (c.in_default-gate_act.ensures {u = tt}).acts in (
      gates_on first old mid asked c.in-Some.number c.loop-number.invariant.0 (c.in-Some.ensures {u = tt}).goes acts,
      stirs_all_then first old asked c.loop-number.invariant.1
          (stirs_all_then old mid asked (goes_gate_stirs old mid c.next_gate_due.result c.next_gate_due.ensures.goes)
          (any_stirs mid asked (c.in_default-gate_act.ensures {u = tt}).stirs)),
      acts.0 ∙ ap (λ (k : Relays). k.due) (c.in-Some.ensures {u = tt}).goes.0 ∙ c.loop-number.invariant.2,
    )

pub returns-in-Some-gate_act-clause-acts : goal.returns-in-Some-gate_act-clause-acts
returns-in-Some-gate_act-clause-acts c =
    gate_given c.args.self.now c.loop-number.self c.next_gate_due.new.self c.gate_act.new.self c.in-Some.number c.in-Some-gate_act.act
    c.loop-number.invariant.0 (c.in-Some.ensures {u = tt}).goes (c.in-Some-gate_act.ensures {u = tt}).acts

pub returns-in-Some-gate_act-clause-stirs : goal.returns-in-Some-gate_act-clause-stirs
returns-in-Some-gate_act-clause-stirs c =
    let first = c.args.self.now in
    let old = c.loop-number.self in
    let mid = c.next_gate_due.new.self in
    stirs_but_then first mid c.gate_act.new.self (closed_in (Some c.in-Some-gate_act.act))
    (stirs_all_then first old mid c.loop-number.invariant.1
    (goes_gate_stirs old mid c.next_gate_due.result c.next_gate_due.ensures.goes))
    (c.in-Some-gate_act.ensures {u = tt}).stirs

pub returns-clause-acts : goal.returns-clause-acts
returns-clause-acts c =
    gates_end c.args.self.now c.loop-number.self c.next_gate_due.new.self c.loop-number.invariant.0 (c.in_default.ensures {u = tt}).goes

pub returns-clause-due : goal.returns-clause-due
returns-clause-due c = ap (λ (k : Relays). k.due) (c.in_default.ensures {u = tt}).goes.0 ∙ c.loop-number.invariant.2

pub returns-clause-stirs : goal.returns-clause-stirs
returns-clause-stirs c = λ n apart.
    stirs_all_then c.args.self.now c.loop-number.self c.next_gate_due.new.self c.loop-number.invariant.1
    (goes_gate_stirs c.loop-number.self c.next_gate_due.new.self c.next_gate_due.result c.next_gate_due.ensures.goes) n
