use Rattle.std.proofs.Common.{rules, refl, ap, sym, ◌∙◌, ◌<◌, ◌^◌}
use Rattle.hb_links.specs.Load.{places_in}
use Rattle.hb_links.proofs.Totals.{idle_counts, told_counts}
use Rattle.hb_links.proofs.Telling.{judged_one, spared_one}
use Rattle.hb_links.proofs.links.Links.judge_at.Goals as goal

pub returns-then-judge_all-clause-judges : goal.returns-then-judge_all-clause-judges
returns-then-judge_all-clause-judges g c =
    let new = c.judge_all.new.self in
    judged_one c.args.held.now c.args.self.now c.touch.new.self _ c.args.number _ c.in-Some.link.now new (g.N.Notes.told c.args.notes.now)
    (g.N.Notes.told c.judge_all.new.notes) c.in-Some.ensures.value (c.at.follows.holds new) c.touch.ensures c.judge_all.ensures.rouses c.judge_all.ensures.updates

pub returns-else-judge_all-clause-judges : goal.returns-else-judge_all-clause-judges
returns-else-judge_all-clause-judges g c =
    let new = c.judge_all.new.self in
    spared_one c.args.held.now c.args.self.now _ _ c.args.number c.in-Some.link.now new (g.N.Notes.told c.args.notes.now)
    (g.N.Notes.told c.judge_all.new.notes) c.in-Some.ensures.value (c.at.follows.holds new) refl
    (c.judge_all.ensures.same c.if-judge_all.false) c.judge_all.ensures.updates

pub returns-then-judge_all-clause-counts : goal.returns-then-judge_all-clause-counts
returns-then-judge_all-clause-counts g c =
    let new = c.judge_all.new.self in
    let narrow : c.args.number < 2 ^ 64 = search rules in
    told_counts c.args.self.now c.touch.new.self _ c.args.number _ new narrow (c.load-before.ensures.value ∙ ap places_in (sym c.in-Some.ensures.value)) c.touch.ensures
    (c.at.follows.holds new)

pub returns-else-judge_all-clause-counts : goal.returns-else-judge_all-clause-counts
returns-else-judge_all-clause-counts g c =
    let new = c.judge_all.new.self in
    idle_counts c.args.self.now _ _ c.args.number c.in-Some.link.now new c.in-Some.ensures.value
    (c.judge_all.ensures.same c.if-judge_all.false) (c.at.follows.holds new) refl
