use Rattle.std.proofs.Common.{Option, sym, subst}
use Rattle.hb_relay.specs.declared.relay.Relay.{Relay}
use Rattle.hb_relays.specs.Looking.{DeliversTo}
use Rattle.hb_relays.proofs.Entering.{changed_is}
use Rattle.hb_relays.proofs.Stirs.{told_stirs}
use Rattle.hb_relays.proofs.relays.Relays.deliver.Goals as goal

pub returns-clause-delivers : goal.returns-clause-delivers
returns-clause-delivers g c =
    let k = c.args.self.now in
    let new = c.stream_failed-made.new.self in
    let routes = c.stream_failed-made.new.routes in
    let is = c.in-Some.ensures.value in
    subst (λ (o : Option Relay). DeliversTo o c.args.mail k (g.N.Notes.told c.args.notes.now) c.touch.new.self
    (g.N.Notes.told c.tell.new.notes))
    (sym is) (
      new,
      routes,
      c.stream_failed-made.result,
      c.stream_failed-made.ensures,
      changed_is k c.touch.new.self _ routes c.args.mail.link c.in-Some.relay.now new c.touch.ensures (c.at.follows.holds new) is,
      c.tell.ensures,
    )

pub returns-clause-stirs : goal.returns-clause-stirs
returns-clause-stirs g c =
    told_stirs c.args.self.now c.touch.new.self _ c.stream_failed-made.new.routes c.args.mail.link c.stream_failed-made.new.self
    c.touch.ensures (c.at.follows.holds c.stream_failed-made.new.self)
