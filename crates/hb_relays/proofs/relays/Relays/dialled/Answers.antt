use Rattle.std.proofs.Common.{is_some, sym, ap, ap₂, ◌∙◌, subst}
use Rattle.hb_map.proofs.Laws.{written_where_some}
use Rattle.hb_relays.specs.Calls.{Dials}
use Rattle.hb_relays.specs.Walks.{Index, Map, relays_with, touched_at}
use Rattle.hb_relays.specs.declared.relays.Relays.{Relays}
use Rattle.hb_relays.proofs.Births.{dials}
use Rattle.hb_relays.proofs.Stirs.{born_stirs}
use Rattle.hb_relays.proofs.relays.Relays.dialled.Goals as goal

pub returns-clause-meets : goal.returns-clause-meets
returns-clause-meets c =
    let k = c.args.self.now in
    let l = c.args.link in
    let u = c.args.number in
    let new = c.dialled.new.self in
    let is = c.in-Some.ensures.value in
    subst (λ (m : Relays). Dials l u k m)
    (sym (c.touch.ensures ∙ ap₂ (λ (relays : Map) (ups : Index). touched_at l (relays_with relays ups k))
    (c.at.follows.holds new ∙ written_where_some k.relays l new (ap is_some is)) c.in_ok-put.ensures.ok))
    (dials k l u c.in-Some.relay.now new is c.dialled.ensures)

pub returns-clause-stirs : goal.returns-clause-stirs
returns-clause-stirs c =
    born_stirs c.args.self.now c.touch.new.self _ _ c.args.link c.args.number c.dialled.new.self (c.at.follows.holds c.dialled.new.self)
    c.in_ok-put.ensures.ok c.touch.ensures
