use Rattle.std.proofs.Common.{◌<◌, ◌≤◌, sym, ◌∙◌, subst, arith}
use Rattle.hb_base.specs.declared.door.Door.{Door}
use Rattle.hb_links.specs.Calls as links
use Rattle.hb_links.specs.Load.{Recounts}
use Rattle.hb_links.specs.Stirring as links_stirring
use Rattle.hb_relays.specs.Calls as relays
use Rattle.hb_relays.specs.Stirring as relays_stirring
use Rattle.hb_turns.specs.Shown.{Tells}
use Rattle.hb_world.specs.declared.entry.Entry.TheVariants as e
use Rattle.hb_whole.specs.Sight.{places_of, shown_of}
use Rattle.hb_whole.specs.Stands.{Stands}
use Rattle.hb_whole.proofs.Births.{accepted_tells, turned_away_tells, captures_at, plain_accepted_tells, plain_turned_away_tells}
use Rattle.hb_whole.proofs.Limited.{no_place, place_left}
use Rattle.hb_whole.proofs.Outcomes.{three_ok, two_ok}
use Rattle.hb_whole.proofs.Telling.{with_side}
use Rattle.hb_whole.proofs.proxy.Proxy.accepted.Goals as goal

pub returns-then-has_room-clause-tells : goal.returns-then-has_room-clause-tells
returns-then-has_room-clause-tells c =
    let p = c.args.self.now in
    let l = c.args.link in
    let new = c.accepted.new.self in
    let q = with_side (record p.side { links = new }) p in
    three_ok c.accepted.result (links.Begins l p.side.links new) (Recounts p.side.links new) (links_stirring.Stirs p.side.links new)
    (Tells Stands shown_of (e.Accepted l c.args.door) p q)
    (λ begins counts stirs. subst (λ (d : Door). Tells Stands shown_of (e.Accepted l d) p q) (sym c.in-Inbound.is)
    (accepted_tells p new l (sym c.has_room.ensures ∙ c.if-has_room.true) begins counts stirs)) c.accepted.ensures.meets
    c.accepted.ensures.counts c.accepted.ensures.stirs

pub returns-else-has_room-clause-tells : goal.returns-else-has_room-clause-tells
returns-else-has_room-clause-tells c =
    let p = c.args.self.now in
    let l = c.args.link in
    let new = c.turned_away.new.self in
    let q = with_side (record p.side { links = new }) p in
    three_ok c.turned_away.result (links.TurnsAway l p.side.links new) (Recounts p.side.links new) (links_stirring.Stirs p.side.links new)
    (Tells Stands shown_of (e.Accepted l c.args.door) p q)
    (λ away counts stirs. subst (λ (d : Door). Tells Stands shown_of (e.Accepted l d) p q) (sym c.in-Inbound.is)
    (turned_away_tells p new l (sym c.has_room.ensures ∙ c.if-has_room.false) away counts stirs)) c.turned_away.ensures.meets
    c.turned_away.ensures.counts c.turned_away.ensures.stirs

pub returns-then-taken-places-clause-tells : goal.returns-then-taken-places-clause-tells
returns-then-taken-places-clause-tells c =
    let p = c.args.self.now in
    let d = c.args.door in
    let l = c.args.link in
    let done = c.accepted-then-taken-places in
    let left : p.side.links.taken < places_of p = omega (arith, c.if-taken-places.true, c.taken.ensures, c.places.ensures) in
    let new = done.new.self in
    two_ok done.result (relays.Begins d l p.side.relays new) (relays_stirring.Stirs p.side.relays new)
    (Tells Stands shown_of (e.Accepted l d) p (with_side (record p.side { relays = new }) p))
    (λ begins stirs. plain_accepted_tells p new d (captures_at d c.in-Plain.is) l (place_left p.side.links.taken (places_of p) left) begins
    stirs) done.ensures.meets done.ensures.stirs

pub returns-else-taken-places-clause-tells : goal.returns-else-taken-places-clause-tells
returns-else-taken-places-clause-tells c =
    let p = c.args.self.now in
    let d = c.args.door in
    let l = c.args.link in
    let done = c.turned_away-else-taken-places in
    let none : places_of p ≤ p.side.links.taken = omega (arith, c.if-taken-places.false, c.taken.ensures, c.places.ensures) in
    let new = done.new.self in
    two_ok done.result (relays.TurnsAway d l p.side.relays new) (relays_stirring.Stirs p.side.relays new)
    (Tells Stands shown_of (e.Accepted l d) p (with_side (record p.side { relays = new }) p))
    (λ away stirs. plain_turned_away_tells p new d (captures_at d c.in-Plain.is) l (no_place p.side.links.taken (places_of p) none) away
    stirs) done.ensures.meets done.ensures.stirs
