use Rattle.std.proofs.Common.{refl, ap, ◌∙◌, sym, subst, Some}
use Rattle.hb_gate.specs.Observed.{wants_on, output_on}
use Rattle.hb_relays.specs.Joining.{Gates}
use Rattle.hb_relays.specs.Stirring.{StirsBut, closed_in}
use Rattle.hb_relays.specs.Walks.{GateActs, gate_touched_at}
use Rattle.hb_world.specs.declared.act.Act.{Act}
use Rattle.hb_relays.proofs.GateActing.{gate_gives, gate_given_stirs, none_gives}
use Rattle.hb_relays.proofs.Stirs.{gate_seen_stirs}
use Rattle.hb_relays.proofs.relays.Relays.gate_act.Goals as goal

pub returns-in_default-next_act-clause-acts : goal.returns-in_default-next_act-clause-acts
returns-in_default-next_act-clause-acts c =
    let after = c.next_act.new.self in
    none_gives c.args.self.now _ _ c.args.number c.in-Some.gate.now after c.in-Some.ensures.value (c.at.follows.holds after) refl
    c.in_default-next_act.ensures

pub returns-in_default-next_act-clause-stirs : goal.returns-in_default-next_act-clause-stirs
returns-in_default-next_act-clause-stirs c =
    let after = c.next_act.new.self in
    λ n apart. gate_seen_stirs c.args.self.now _ _ c.args.number c.in-Some.gate.now after c.in-Some.ensures.value
    (c.at.follows.holds after) refl (ap wants_on c.in_default-next_act.ensures.0) (ap output_on c.in_default-next_act.ensures.0) n

pub returns-clause-acts : goal.returns-clause-acts
returns-clause-acts c =
    let k = c.args.self.now in
    let n = c.args.number in
    let after = c.next_act.new.self in
    subst (λ (given : Act). GateActs n (Some given) k c.touch_gate.new.self) (sym c.closing_as.ensures)
    (gate_gives k c.touch_gate.new.self _ n c.in-Some.gate.now after c.in-Some-next_act.act c.in-Some.ensures.value
    (c.at.follows.holds after)
    (c.touch_gate.ensures ∙ ap (λ (all : Gates). gate_touched_at n (record k { gates = all })) c.remove.ensures.rest)
    c.in-Some-next_act.ensures)

pub returns-clause-stirs : goal.returns-clause-stirs
returns-clause-stirs c =
    let k = c.args.self.now in
    let n = c.args.number in
    let after = c.next_act.new.self in
    subst (λ (given : Act). StirsBut (closed_in (Some given)) k c.touch_gate.new.self) (sym c.closing_as.ensures)
    (gate_given_stirs k c.touch_gate.new.self _ n c.in-Some.gate.now after c.in-Some-next_act.act (c.at.follows.holds after)
    (c.touch_gate.ensures ∙ ap (λ (all : Gates). gate_touched_at n (record k { gates = all })) c.remove.ensures.rest)
    c.in-Some-next_act.ensures)
