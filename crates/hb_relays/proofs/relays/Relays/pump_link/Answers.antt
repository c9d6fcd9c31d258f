use Rattle.std.proofs.Common.{is_some, ap, sym, ◌∙◌, subst}
use Rattle.std.proofs.lemmas.Bool.{false≢true}
use Rattle.hb_relays.specs.Joining.{Gates}
use Rattle.hb_relays.specs.Pumping.{Pumps}
use Rattle.hb_relays.specs.Stirring.{Stirs}
use Rattle.hb_relays.specs.declared.relays.Relays.{Relays}
use Rattle.hb_relays.proofs.Paired.{paired_with}
use Rattle.hb_relays.proofs.PumpedLink.{pumps_none, pumps_away, pumps_resting, pumps_both, paired_stirs}
use Rattle.hb_relays.proofs.Stirs.{none_stirs}
use Rattle.hb_relays.proofs.relays.Relays.pump_link.Goals as goal

pub returns-in_default-clause-pumps : goal.returns-in_default-clause-pumps
returns-in_default-clause-pumps g c = pumps_none c.args.self.now c.args.link (g.N.Notes.told c.args.notes.now) c.in_default.ensures

pub returns-in_default-clause-stirs : goal.returns-in_default-clause-stirs
returns-in_default-clause-stirs g c = none_stirs c.args.self.now

pub returns-then-rests_at-clause-pumps : goal.returns-then-rests_at-clause-pumps
returns-then-rests_at-clause-pumps g c =
    pumps_resting c.args.self.now c.args.link (g.N.Notes.told c.args.notes.now) (c.in-Some.number, c.in-Some.stream) c.rests_at.result
    c.in-Some.ensures c.rests_at.ensures c.if-rests_at.true

pub returns-then-rests_at-clause-stirs : goal.returns-then-rests_at-clause-stirs
returns-then-rests_at-clause-stirs g c = none_stirs c.args.self.now

pub returns-in_default-at-clause-pumps : goal.returns-in_default-at-clause-pumps
returns-in_default-at-clause-pumps g c =
    let k = c.args.self.now in
    let told = g.N.Notes.told c.args.notes.now in
    subst (λ (all : Gates). Pumps c.args.link k told (record k { gates = all }) told) (sym c.at.follows.holds-at-none)
    (pumps_away k c.args.link told (c.in-Some.number, c.in-Some.stream) c.in-Some.ensures c.in_default-at.ensures.none)

pub returns-in_default-at-clause-stirs : goal.returns-in_default-at-clause-stirs
returns-in_default-at-clause-stirs g c =
    let k = c.args.self.now in
    subst (λ (all : Gates). Stirs k (record k { gates = all })) (sym c.at.follows.holds-at-none) (none_stirs k)

pub returns-in_default-at-2-clause-pumps : goal.returns-in_default-at-2-clause-pumps
returns-in_default-at-2-clause-pumps g c =
    absurd (false≢true (sym (ap is_some c.in_default-at-2.ensures.none) ∙ c.in-Some.ensures.0))

pub returns-in_default-at-2-clause-stirs : goal.returns-in_default-at-2-clause-stirs
returns-in_default-at-2-clause-stirs g c =
    absurd (false≢true (sym (ap is_some c.in_default-at-2.ensures.none) ∙ c.in-Some.ensures.0))

pub returns-clause-pumps : goal.returns-clause-pumps
returns-clause-pumps g c =
    let k = c.args.self.now in
    let one = c.pump-made.new.relay in
    let two = c.pump-made.new.gate in
    let is = c.in-Some-at-2.ensures.value in
    let is_gate = c.in-Some-at.ensures.value in
    pumps_both k c.touch_gate.new.self c.args.link (c.in-Some.number, c.in-Some.stream) c.in-Some-at-2.relay.now one
    c.in-Some-at.gate.now two c.pump-made.new.routes c.pump-made.result (g.N.Notes.told c.args.notes.now) (g.N.Notes.told c.tell.new.notes)
    c.in-Some.ensures is is_gate c.pump-made.ensures c.tell.ensures
    (paired_with k _ _ _ _ c.args.link c.in-Some.number c.in-Some-at-2.relay.now one c.in-Some-at.gate.now two c.pump-made.new.routes is
    is_gate (c.at-2.follows.holds one) (c.at.follows.holds two) c.touch.ensures c.touch_gate.ensures)

pub returns-clause-stirs : goal.returns-clause-stirs
returns-clause-stirs g c =
    let k = c.args.self.now in
    let one = c.pump-made.new.relay in
    let two = c.pump-made.new.gate in
    let is = c.in-Some-at-2.ensures.value in
    let is_gate = c.in-Some-at.ensures.value in
    subst (λ (w : Relays). Stirs k w)
    (sym (paired_with k _ _ _ _ c.args.link c.in-Some.number c.in-Some-at-2.relay.now one c.in-Some-at.gate.now two c.pump-made.new.routes
    is is_gate (c.at-2.follows.holds one) (c.at.follows.holds two) c.touch.ensures c.touch_gate.ensures))
    (paired_stirs k c.args.link c.in-Some.number c.in-Some-at-2.relay.now one c.in-Some-at.gate.now two c.pump-made.new.routes is is_gate)
