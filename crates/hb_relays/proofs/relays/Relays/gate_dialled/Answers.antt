use Rattle.std.proofs.Common.{rules, ◌≡◌, ◌<◌, ◌^◌, Some, ap, ◌∙◌, subst}
use Rattle.std.specs.FinMap.{get}
use Rattle.hb_gate.specs.Calls.{Begins}
use Rattle.hb_gateway.specs.Key.{Key}
use Rattle.hb_gateway.specs.Keys.{key_as}
use Rattle.hb_relays.specs.Joining.{Gates}
use Rattle.hb_relays.specs.Walks.{gate_touched_at}
use Rattle.hb_relays.proofs.Dialling.{gate_dials}
use Rattle.hb_relays.proofs.Entering.{on_ok}
use Rattle.hb_relays.proofs.Stirs.{gate_put_stirs, stirs_all_then}
use Rattle.hb_relays.proofs.relays.Relays.gate_dialled.Goals as goal

pub returns-clause-meets : goal.returns-clause-meets
returns-clause-meets c =
    let k = c.args.self.now in
    let n = c.args.number in
    let old = c.in-Some.relay.now in
    let found : get k.relays c.args.link ≡ Some old = search rules in
    let narrow : n < 2 ^ 64 = search rules in
    let gate = c.in_ok-gate.gate in
    on_ok c.join.result
    (gate_dials k c.touch_gate.new.self c.join.new.self c.args.link n old (key_as c.in-Some-wanted.key.now) c.in-Some-wanted.field-0-1
    gate found c.in-Some-wanted.ensures
    (subst (λ (key : Key). Begins n key gate) c.in_ok-copy.ensures c.in_ok-gate.ensures.begins) c.in_ok-gate.ensures.number narrow
    (c.touch_gate.ensures ∙ ap (λ (gates : Gates). gate_touched_at n (record k { gates = gates })) c.in_ok-put.ensures.ok))
    c.join.ensures.joins

pub returns-clause-stirs : goal.returns-clause-stirs
returns-clause-stirs c =
    on_ok c.join.result
    (stirs_all_then c.args.self.now c.touch_gate.new.self c.join.new.self
    (gate_put_stirs c.args.self.now c.touch_gate.new.self _ c.args.number c.in_ok-gate.gate c.in_ok-put.ensures.ok c.touch_gate.ensures))
    c.join.ensures.stirs
