use Rattle.std.proofs.Common.{refl}
use Rattle.hb_relays.proofs.Acting.{none_acts, some_acts}
use Rattle.hb_relays.proofs.Stirs.{act_stirs, spared_stirs}
use Rattle.hb_relays.proofs.relays.Relays.act_of.Goals as goal

pub returns-in_default-next_act-clause-acts : goal.returns-in_default-next_act-clause-acts
returns-in_default-next_act-clause-acts c =
    let new = c.next_act.new.self in
    none_acts c.args.self.now _ _ c.args.number c.in-Some.relay.now new c.in-Some.ensures.value (c.at.follows.holds new) refl
    c.next_act.ensures.number c.in_default-next_act.ensures.acts

pub returns-in_default-next_act-clause-stirs : goal.returns-in_default-next_act-clause-stirs
returns-in_default-next_act-clause-stirs c =
    let new = c.next_act.new.self in
    λ n apart. spared_stirs c.args.self.now _ _ c.args.number c.in-Some.relay.now new c.in-Some.ensures.value
    c.in_default-next_act.ensures.acts.0 (c.at.follows.holds new) refl n

pub returns-clause-acts : goal.returns-clause-acts
returns-clause-acts c =
    let new = c.next_act.new.self in
    some_acts c.args.self.now c.finish.new.self _ c.args.number c.in-Some.relay.now new c.in-Some-next_act.act c.in-Some.ensures.value
    (c.at.follows.holds new) c.finish.ensures c.next_act.ensures.number c.in-Some-next_act.ensures.acts

pub returns-clause-stirs : goal.returns-clause-stirs
returns-clause-stirs c =
    let new = c.next_act.new.self in
    act_stirs c.args.self.now c.finish.new.self c.args.number c.in-Some-next_act.act _ new (c.at.follows.holds new) c.finish.ensures
