use Rattle.std.proofs.Common.{rules, ◌≡◌, Some, None, refl, ◌<◌, ◌^◌}
use Rattle.std.specs.FinMap.{get}
use Rattle.hb_world.specs.declared.entry.Entry.TheVariants as e
use Rattle.hb_links.proofs.Entering.{up_told, none_opens}
use Rattle.hb_links.proofs.Stirs.{told_stirs}
use Rattle.hb_links.proofs.Totals.{told_counts}
use Rattle.hb_links.proofs.links.Links.opened.Goals as goal

pub returns-in_default-clause-meets : goal.returns-in_default-clause-meets
returns-in_default-clause-meets g c =
    let none : get c.args.self.now.ups c.args.number ≡ None = search rules in
    none_opens c.args.self.now _ c.args.number _ _ none

pub returns-clause-meets : goal.returns-clause-meets
returns-clause-meets g c =
    let k = c.args.self.now in
    let n = c.args.number in
    let at = c.in-Some.place in
    let new = c.up_opened.new.self in
    let found : get k.ups n ≡ Some at = search rules in
    up_told _ k c.touch.new.self _ n (e.Opened n) at c.in-Some-at.link.now new (g.N.Notes.told c.args.notes.now)
    (g.N.Notes.told c.up_opened.new.notes) c.touch.ensures (c.at.follows.holds new) found c.in-Some-at.ensures.value (λ u. refl)
    (c.up_opened.ensures.enters n)

pub returns-clause-stirs : goal.returns-clause-stirs
returns-clause-stirs g c =
    told_stirs _ c.args.self.now c.touch.new.self _ c.in-Some.place.link c.in-Some-at.link.now c.up_opened.new.self c.touch.ensures
    (c.at.follows.holds c.up_opened.new.self) c.in-Some-at.ensures.value c.up_opened.ensures.rouses

pub returns-clause-counts : goal.returns-clause-counts
returns-clause-counts g c =
    let narrow : c.in-Some.place.link < 2 ^ 64 = search rules in
    told_counts c.args.self.now c.touch.new.self _ c.in-Some.place.link _ c.up_opened.new.self narrow c.places_at-before.ensures c.touch.ensures (c.at.follows.holds c.up_opened.new.self)
