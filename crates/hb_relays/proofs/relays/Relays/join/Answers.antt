use Rattle.std.proofs.Common.{is_some, ap, sym, ◌∙◌, subst}
use Rattle.std.proofs.lemmas.Bool.{false≢true}
use Rattle.hb_relays.specs.Joining.{HasRoom}
use Rattle.hb_relays.specs.Stirring.{Stirs}
use Rattle.hb_relays.specs.declared.relays.Relays.{Relays}
use Rattle.hb_relays.proofs.Joined.{joins, joins_none, room_of}
use Rattle.hb_relays.proofs.Paired.{paired_with}
use Rattle.hb_relays.proofs.PumpedLink.{paired_stirs}
use Rattle.hb_relays.proofs.Stirs.{none_stirs}
use Rattle.hb_relays.proofs.relays.Relays.join.Goals as goal

pub returns-in_default-clause-joins : goal.returns-in_default-clause-joins
returns-in_default-clause-joins c = joins_none c.args.self.now c.args.link c.in_default.ensures

pub returns-in_default-clause-stirs : goal.returns-in_default-clause-stirs
returns-in_default-clause-stirs c = none_stirs c.args.self.now

pub returns-in_default-at-clause-joins : goal.returns-in_default-at-clause-joins
returns-in_default-at-clause-joins c = absurd (false≢true (sym (ap is_some c.in_default-at.ensures.none) ∙ c.in-Some.ensures.0))

pub returns-in_default-at-clause-stirs : goal.returns-in_default-at-clause-stirs
returns-in_default-at-clause-stirs c = absurd (false≢true (sym (ap is_some c.in_default-at.ensures.none) ∙ c.in-Some.ensures.0))

pub returns-in_default-at-2-clause-joins : goal.returns-in_default-at-2-clause-joins
returns-in_default-at-2-clause-joins c = absurd (subst HasRoom c.in_default-at-2.ensures.none c.in-Some.ensures.1)

pub returns-in_default-at-2-clause-stirs : goal.returns-in_default-at-2-clause-stirs
returns-in_default-at-2-clause-stirs c = absurd (subst HasRoom c.in_default-at-2.ensures.none c.in-Some.ensures.1)

pub ask-requires : goal.ask-requires
ask-requires c = room_of _ c.in-Some-at-2.gate.now c.in-Some-at-2.ensures.value c.in-Some.ensures.1

pub returns-clause-joins : goal.returns-clause-joins
returns-clause-joins c =
    let k = c.args.self.now in
    let one = c.asked.new.self in
    let two = c.ask.new.self in
    let is = c.in-Some-at.ensures.value in
    let is_gate = c.in-Some-at-2.ensures.value in
    joins k c.touch_gate.new.self c.args.link c.in-Some.number c.in_ok-stream.stream c.in-Some-at.relay.now one c.in-Some-at-2.gate.now two
    c.in-Some.authority is is_gate c.asked.ensures c.in_ok-stream.ensures c.in-Some.ensures.2
    (paired_with k _ _ _ _ c.args.link c.in-Some.number c.in-Some-at.relay.now one c.in-Some-at-2.gate.now two k.routes is is_gate
    (c.at.follows.holds one) (c.at-2.follows.holds two) c.touch.ensures c.touch_gate.ensures)

pub returns-clause-stirs : goal.returns-clause-stirs
returns-clause-stirs c =
    let k = c.args.self.now in
    let one = c.asked.new.self in
    let two = c.ask.new.self in
    let is = c.in-Some-at.ensures.value in
    let is_gate = c.in-Some-at-2.ensures.value in
    subst (λ (w : Relays). Stirs k w)
    (sym (paired_with k _ _ _ _ c.args.link c.in-Some.number c.in-Some-at.relay.now one c.in-Some-at-2.gate.now two k.routes is is_gate
    (c.at.follows.holds one) (c.at-2.follows.holds two) c.touch.ensures c.touch_gate.ensures))
    (paired_stirs k c.args.link c.in-Some.number c.in-Some-at.relay.now one c.in-Some-at-2.gate.now two k.routes is is_gate)
