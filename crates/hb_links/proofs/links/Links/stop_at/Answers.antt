use Rattle.std.proofs.Common.{rules, ◌<◌, ◌^◌}
use Rattle.hb_link.specs.Calls.{Stops}
use Rattle.hb_links.proofs.Totals.{one_counts}
use Rattle.hb_links.proofs.Telling.{told_one}
use Rattle.hb_links.proofs.links.Links.stop_at.Goals as goal

pub returns-clause-tells : goal.returns-clause-tells
returns-clause-tells g c =
    let new = c.stopped.new.self in
    told_one (Stops c.args.cause) c.args.self.now c.count.new.self _ c.args.number _ c.in-Some.link.now new (g.N.Notes.told c.args.notes.now)
    (g.N.Notes.told c.stopped.new.notes) c.in-Some.ensures.value (c.at.follows.holds new) c.count.ensures c.stopped.ensures.stops

pub returns-clause-counts : goal.returns-clause-counts
returns-clause-counts g c =
    let new = c.stopped.new.self in
    let narrow : c.args.number < 2 ^ 64 = search rules in
    one_counts c.args.self.now c.count.new.self _ c.args.number _ new narrow c.places_at-before.ensures c.count.ensures
    (c.at.follows.holds new)
