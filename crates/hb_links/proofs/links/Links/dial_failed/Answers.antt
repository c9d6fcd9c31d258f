use Rattle.std.proofs.Common.{sym, subst, rules, ◌<◌, ◌^◌}
use Rattle.hb_links.specs.declared.links.Links.{Links}
use Rattle.hb_links.specs.Calls.{DialFails}
use Rattle.hb_links.proofs.Births.{fails}
use Rattle.hb_links.proofs.Entering.{changed}
use Rattle.hb_links.proofs.Stirs.{told_stirs}
use Rattle.hb_links.proofs.Totals.{told_counts}
use Rattle.hb_links.proofs.links.Links.dial_failed.Goals as goal

pub returns-clause-meets : goal.returns-clause-meets
returns-clause-meets g c =
    let k = c.args.self.now in
    let l = c.args.link in
    let s = c.args.stream in
    let old = c.in-Some.at.now in
    let new = c.dial_failed.new.self in
    let is = c.in-Some.ensures.value in
    let told = g.N.Notes.told c.args.notes.now in
    let now = g.N.Notes.told c.dial_failed.new.notes in
    subst (λ (m : Links). DialFails l s k told m now)
    (sym (changed _ k c.touch.new.self _ l old new c.touch.ensures (c.at.follows.holds new) is))
    (fails _ k l s old new told now is c.dial_failed.ensures.enters)

pub returns-clause-stirs : goal.returns-clause-stirs
returns-clause-stirs g c =
    told_stirs _ c.args.self.now c.touch.new.self _ c.args.link c.in-Some.at.now c.dial_failed.new.self c.touch.ensures
    (c.at.follows.holds c.dial_failed.new.self) c.in-Some.ensures.value c.dial_failed.ensures.rouses

pub returns-clause-counts : goal.returns-clause-counts
returns-clause-counts g c =
    let narrow : c.args.link < 2 ^ 64 = search rules in
    told_counts c.args.self.now c.touch.new.self _ c.args.link _ c.dial_failed.new.self narrow c.places_at-before.ensures c.touch.ensures (c.at.follows.holds c.dial_failed.new.self)
