use Rattle.std.proofs.Common.{rules, ◌<◌, ◌^◌, sym, ap, ◌∙◌, subst}
use Rattle.hb_relays.specs.Calls.{TurnsAway}
use Rattle.hb_relays.specs.Walks.{Map, relays_with, touched_at}
use Rattle.hb_relays.specs.declared.relays.Relays.{Relays}
use Rattle.hb_relays.proofs.Births.{turns}
use Rattle.hb_relays.proofs.Stirs.{put_stirs}
use Rattle.hb_relays.proofs.relays.Relays.turned_away.Goals as goal

pub returns-clause-meets : goal.returns-clause-meets
returns-clause-meets c =
    let k = c.args.self.now in
    let n = c.args.number in
    let narrow : n < 2 ^ 64 = search rules in
    subst (λ (m : Relays). TurnsAway c.args.door n k m)
    (sym (c.touch.ensures ∙ ap (λ (relays : Map). touched_at n (relays_with relays k.ups k)) c.in_ok-put.ensures.ok))
    (turns k c.args.door n c.in_ok-relay.relay narrow c.in_ok-relay.ensures.turns c.in_ok-relay.ensures.number)

pub returns-clause-stirs : goal.returns-clause-stirs
returns-clause-stirs c =
    put_stirs c.args.self.now c.touch.new.self _ c.args.number c.in_ok-relay.relay c.touch.ensures c.in_ok-put.ensures.ok
