use Rattle.std.proofs.Common.{rules, ◌≡◌, Some, None, ◌<◌, ◌^◌, ◌-◌, ℕ, min, ap, ◌∙◌, subst}
use Rattle.std.specs.FinMap.{get}
use Rattle.hb_link.specs.Calls as calls
use Rattle.hb_links.specs.Load.{others_of}
use Rattle.hb_links.proofs.Limits.{takes_all}
use Rattle.hb_links.proofs.Entering.{up_takes, own_takes}
use Rattle.hb_links.proofs.Stirs.{told_stirs}
use Rattle.hb_links.proofs.Totals.{told_counts}
use Rattle.hb_links.proofs.links.Links.took.Goals as goal

pub returns-in-Some-at-clause-meets : goal.returns-in-Some-at-clause-meets
returns-in-Some-at-clause-meets g c =
    let k = c.args.self.now in
    let n = c.args.number in
    let at = c.in-Some.place in
    let new = c.up_bytes.new.self in
    let found : get k.ups n ≡ Some at = search rules in
    up_takes _ k c.touch.new.self _ n c.args.b.now at c.in-Some-at.link.now new (g.N.Notes.told c.args.notes.now) c.args.held.now
    (others_of k n) c.args.limit c.touch.ensures (c.at.follows.holds new) found c.in-Some-at.ensures.value (c.up_bytes.ensures.enters n)

pub returns-in-Some-at-2-clause-meets : goal.returns-in-Some-at-2-clause-meets
returns-in-Some-at-2-clause-meets g c =
    let k = c.args.self.now in
    let n = c.args.number in
    let new = c.take_bytes.new.self in
    let none : get k.ups n ≡ None = search rules in
    let few : c.args.limit < 2 ^ 64 = search rules in
    let is : c.other_places-others.result ≡ min (others_of k n) (2 ^ 64 - 1) =
    c.other_places-others.ensures ∙ ap (λ (own : ℕ). min (k.taken - own) (2 ^ 64 - 1)) c.places_at-before-in-None.ensures in
    let takes = subst (λ (o : ℕ). calls.Takes c.args.held.now o c.args.limit c.args.b.now c.in-Some-at-2.link.now
    (g.N.Notes.told c.args.notes.now) new (g.N.Notes.told c.take_bytes.new.notes)) is c.take_bytes.ensures.takes in
    own_takes _ k c.touch-in-None.new.self _ n c.args.b.now c.in-Some-at-2.link.now new (g.N.Notes.told c.args.notes.now)
    (g.N.Notes.told c.take_bytes.new.notes) c.args.held.now c.args.limit c.touch-in-None.ensures
    (c.at-in-None.follows.holds new) none c.in-Some-at-2.ensures.value (takes_all c.args.held.now (others_of k n) c.args.limit
    c.args.b.now c.in-Some-at-2.link.now (g.N.Notes.told c.args.notes.now) new (g.N.Notes.told c.take_bytes.new.notes) few takes)

pub returns-in-Some-at-clause-stirs : goal.returns-in-Some-at-clause-stirs
returns-in-Some-at-clause-stirs g c =
    told_stirs _ c.args.self.now c.touch.new.self _ c.in-Some.place.link c.in-Some-at.link.now c.up_bytes.new.self c.touch.ensures
    (c.at.follows.holds c.up_bytes.new.self) c.in-Some-at.ensures.value c.up_bytes.ensures.rouses

pub returns-in-Some-at-clause-counts : goal.returns-in-Some-at-clause-counts
returns-in-Some-at-clause-counts g c =
    let narrow : c.in-Some.place.link < 2 ^ 64 = search rules in
    told_counts c.args.self.now c.touch.new.self _ c.in-Some.place.link _ c.up_bytes.new.self narrow c.places_at-before.ensures c.touch.ensures (c.at.follows.holds c.up_bytes.new.self)

pub returns-in-Some-at-2-clause-stirs : goal.returns-in-Some-at-2-clause-stirs
returns-in-Some-at-2-clause-stirs g c =
    told_stirs _ c.args.self.now c.touch-in-None.new.self _ c.args.number c.in-Some-at-2.link.now c.take_bytes.new.self c.touch-in-None.ensures
    (c.at-in-None.follows.holds c.take_bytes.new.self) c.in-Some-at-2.ensures.value c.take_bytes.ensures.rouses

pub returns-in-Some-at-2-clause-counts : goal.returns-in-Some-at-2-clause-counts
returns-in-Some-at-2-clause-counts g c =
    let narrow : c.args.number < 2 ^ 64 = search rules in
    told_counts c.args.self.now c.touch-in-None.new.self _ c.args.number _ c.take_bytes.new.self narrow c.places_at-before-in-None.ensures c.touch-in-None.ensures (c.at-in-None.follows.holds c.take_bytes.new.self)
