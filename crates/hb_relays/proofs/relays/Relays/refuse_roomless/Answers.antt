use Rattle.std.proofs.Common.{is_some, ap, sym, ◌∙◌, subst}
use Rattle.hb_map.proofs.Laws.{written_where_some}
use Rattle.hb_relays.specs.Joining.{IsWanting, Refuses}
use Rattle.hb_relays.specs.Stirring.{Stirs}
use Rattle.hb_relays.specs.Walks.{Map, relays_with, routes_with, touched_at}
use Rattle.hb_relays.proofs.Refusing.{refuses_none, refuses_unwanted, refuses_away, refuses}
use Rattle.hb_relays.proofs.Stirs.{none_stirs, told_stirs}
use Rattle.hb_relays.proofs.relays.Relays.refuse_roomless.Goals as goal

pub returns-then-room-clause-refuses : goal.returns-then-room-clause-refuses
returns-then-room-clause-refuses g c =
    refuses_none c.args.self.now c.args.link c.args.room (g.N.Notes.told c.args.notes.now) c.if-room.true

pub returns-then-room-clause-stirs : goal.returns-then-room-clause-stirs
returns-then-room-clause-stirs g c = none_stirs c.args.self.now

pub returns-then-not-wants_stream-clause-refuses : goal.returns-then-not-wants_stream-clause-refuses
returns-then-not-wants_stream-clause-refuses g c =
    let k = c.args.self.now in
    let l = c.args.link in
    refuses_unwanted k l c.args.room (g.N.Notes.told c.args.notes.now)
    (subst (IsWanting l k) c.if-not-wants_stream.true c.wants_stream.ensures)

pub returns-then-not-wants_stream-clause-stirs : goal.returns-then-not-wants_stream-clause-stirs
returns-then-not-wants_stream-clause-stirs g c = none_stirs c.args.self.now

pub returns-in_default-clause-refuses : goal.returns-in_default-clause-refuses
returns-in_default-clause-refuses g c =
    let k = c.args.self.now in
    let told = g.N.Notes.told c.args.notes.now in
    let l = c.args.link in
    subst (λ (all : Map). Refuses l c.args.room k told (record k { relays = all }) told) (sym c.at.follows.holds-at-none)
    (refuses_away k l c.args.room told c.in_default.ensures.none)

pub returns-in_default-clause-stirs : goal.returns-in_default-clause-stirs
returns-in_default-clause-stirs g c =
    let k = c.args.self.now in
    subst (λ (all : Map). Stirs k (record k { relays = all })) (sym c.at.follows.holds-at-none) (none_stirs k)

pub returns-clause-refuses : goal.returns-clause-refuses
returns-clause-refuses g c =
    let k = c.args.self.now in
    let l = c.args.link in
    let new = c.lacks_room-made.new.self in
    let is = c.in-Some.ensures.value in
    refuses k c.touch.new.self l c.args.room c.in-Some.relay.now new c.lacks_room-made.new.routes (g.N.Notes.told c.args.notes.now)
    (g.N.Notes.told c.tell.new.notes) c.lacks_room-made.result is
    (subst (IsWanting l k) c.if-not-wants_stream.false c.wants_stream.ensures) c.lacks_room-made.ensures c.tell.ensures
    (c.touch.ensures ∙ ap (λ (m : Map). touched_at l (routes_with c.lacks_room-made.new.routes (relays_with m k.ups k)))
    (c.at.follows.holds new ∙ written_where_some k.relays l new (ap is_some is))) c.if-room.false

pub returns-clause-stirs : goal.returns-clause-stirs
returns-clause-stirs g c =
    told_stirs c.args.self.now c.touch.new.self _ c.lacks_room-made.new.routes c.args.link c.lacks_room-made.new.self c.touch.ensures
    (c.at.follows.holds c.lacks_room-made.new.self)
