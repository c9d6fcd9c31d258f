use Rattle.std.proofs.Common.{rules, ◌≡◌, Some, None, refl, ◌<◌, ◌^◌}
use Rattle.std.specs.FinMap.{get}
use Rattle.hb_world.specs.declared.entry.Entry.TheVariants as e
use Rattle.hb_links.proofs.Entering.{up_told, own_told}
use Rattle.hb_links.proofs.Staying.{ended_open}
use Rattle.hb_links.proofs.Stirs.{told_stirs}
use Rattle.hb_links.proofs.Totals.{told_counts}
use Rattle.hb_links.proofs.links.Links.ended.Goals as goal

pub returns-in-Some-at-clause-meets : goal.returns-in-Some-at-clause-meets
returns-in-Some-at-clause-meets g c =
    let k = c.args.self.now in
    let n = c.args.number in
    let at = c.in-Some.place in
    let new = c.up_ended.new.self in
    let found : get k.ups n ≡ Some at = search rules in
    up_told _ k c.touch.new.self _ n (e.Ended n) at c.in-Some-at.link.now new (g.N.Notes.told c.args.notes.now)
    (g.N.Notes.told c.up_ended.new.notes) c.touch.ensures (c.at.follows.holds new) found c.in-Some-at.ensures.value (λ u. refl)
    (c.up_ended.ensures.enters n)

pub returns-in-Some-at-2-clause-meets : goal.returns-in-Some-at-2-clause-meets
returns-in-Some-at-2-clause-meets g c =
    let k = c.args.self.now in
    let n = c.args.number in
    let new = c.ended.new.self in
    let none : get k.ups n ≡ None = search rules in
    own_told _ k c.touch-in-None.new.self _ n (λ i. e.Ended i) c.in-Some-at-2.link.now new (g.N.Notes.told c.args.notes.now)
    (g.N.Notes.told c.ended.new.notes) (ended_open n) c.touch-in-None.ensures (c.at-in-None.follows.holds new) none c.in-Some-at-2.ensures.value
    c.ended.ensures.enters

pub returns-in-Some-at-clause-stirs : goal.returns-in-Some-at-clause-stirs
returns-in-Some-at-clause-stirs g c =
    told_stirs _ c.args.self.now c.touch.new.self _ c.in-Some.place.link c.in-Some-at.link.now c.up_ended.new.self c.touch.ensures
    (c.at.follows.holds c.up_ended.new.self) c.in-Some-at.ensures.value c.up_ended.ensures.rouses

pub returns-in-Some-at-clause-counts : goal.returns-in-Some-at-clause-counts
returns-in-Some-at-clause-counts g c =
    let narrow : c.in-Some.place.link < 2 ^ 64 = search rules in
    told_counts c.args.self.now c.touch.new.self _ c.in-Some.place.link _ c.up_ended.new.self narrow c.places_at-before.ensures c.touch.ensures (c.at.follows.holds c.up_ended.new.self)

pub returns-in-Some-at-2-clause-stirs : goal.returns-in-Some-at-2-clause-stirs
returns-in-Some-at-2-clause-stirs g c =
    told_stirs _ c.args.self.now c.touch-in-None.new.self _ c.args.number c.in-Some-at-2.link.now c.ended.new.self c.touch-in-None.ensures
    (c.at-in-None.follows.holds c.ended.new.self) c.in-Some-at-2.ensures.value c.ended.ensures.rouses

pub returns-in-Some-at-2-clause-counts : goal.returns-in-Some-at-2-clause-counts
returns-in-Some-at-2-clause-counts g c =
    let narrow : c.args.number < 2 ^ 64 = search rules in
    told_counts c.args.self.now c.touch-in-None.new.self _ c.args.number _ c.ended.new.self narrow c.places_at-before-in-None.ensures c.touch-in-None.ensures (c.at-in-None.follows.holds c.ended.new.self)
