use Rattle.std.proofs.Common.{rules, ◌≡◌, Some, None, refl, ap, ◌∙◌}
use Rattle.std.specs.FinMap.{get}
use Rattle.hb_link.specs.Tunnels.{has_place}
use Rattle.hb_link.proofs.Alone.{placeless, nothing_ends, pending_ends, live_ends}
use Rattle.hb_link.proofs.Rousing.{left_rouses, rouses_same}
use Rattle.hb_link.proofs.link.Link.end_alone.Goals as goal

pub returns-in_default-clause-settles : goal.returns-in_default-clause-settles
returns-in_default-clause-settles g c = λ limits start before a stands holds ends.
    let k = c.args.self.now in
    let none : get k.tunnels c.args.stream ≡ None = search rules in (
      refl,
      nothing_ends limits k c.args.stream c.args.cause c.requires (g.N.Notes.told c.args.notes.now) start before a stands ends
          (ap has_place none),
    )

pub returns-in_default-stage-clause-settles : goal.returns-in_default-stage-clause-settles
returns-in_default-stage-clause-settles g c = λ limits start before a stands holds ends.
    let k = c.args.self.now in
    let old = c.in-Some.tunnel.now in
    let found : get k.tunnels c.args.stream ≡ Some old = search rules in (
      refl,
      nothing_ends limits k c.args.stream c.args.cause c.requires (g.N.Notes.told c.args.notes.now) start before a stands ends
          (ap has_place found
          ∙ placeless old.stage c.in_default-stage.not-Due c.in_default-stage.not-Opening c.in_default-stage.not-Live),
    )

pub returns-in-Due-clause-settles : goal.returns-in-Due-clause-settles
returns-in-Due-clause-settles g c = λ limits start before a stands holds ends.
    let k = c.args.self.now in
    let old = c.in-Some.tunnel.now in
    let found : get k.tunnels c.args.stream ≡ Some old = search rules in (
      refl,
      pending_ends limits k c.args.stream c.args.cause c.requires (g.N.Notes.told c.args.notes.now) start before a stands ends old
          c.leave.new.tunnels found c.in-Due.is c.leave.ensures,
    )

pub returns-in-Live-clause-settles : goal.returns-in-Live-clause-settles
returns-in-Live-clause-settles g c = λ limits start before a stands holds ends.
    let k = c.args.self.now in
    let old = c.in-Some.tunnel.now in
    let found : get k.tunnels c.args.stream ≡ Some old = search rules in (
      refl,
      live_ends limits k c.args.stream c.args.cause c.requires (g.N.Notes.told c.args.notes.now) start before a stands ends old
          c.leave-in-Live.new.tunnels (g.N.Notes.told c.end.new.self) found c.in-Live.is c.leave-in-Live.ensures c.end.ensures,
    )

pub returns-in_default-clause-rouses : goal.returns-in_default-clause-rouses
returns-in_default-clause-rouses g c = rouses_same c.args.self.now c.args.self.now refl refl

pub returns-in_default-stage-clause-rouses : goal.returns-in_default-stage-clause-rouses
returns-in_default-stage-clause-rouses g c = rouses_same c.args.self.now c.args.self.now refl refl

pub returns-in-Due-clause-rouses : goal.returns-in-Due-clause-rouses
returns-in-Due-clause-rouses g c = left_rouses c.args.self.now _ c.args.stream c.args.cause _ refl c.leave.ensures

pub returns-in-Live-clause-rouses : goal.returns-in-Live-clause-rouses
returns-in-Live-clause-rouses g c = left_rouses c.args.self.now _ c.args.stream c.args.cause _ refl c.leave-in-Live.ensures
