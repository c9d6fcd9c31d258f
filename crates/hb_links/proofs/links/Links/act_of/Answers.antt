use Rattle.std.proofs.Common.{rules, ◌<◌, ◌^◌, Some, ap, refl, subst, sym, ◌∙◌}
use Rattle.hb_links.specs.declared.links.Links.{Links}
use Rattle.hb_links.specs.Stirring.{StirsBut, closed_in}
use Rattle.hb_map.proofs.Laws.{written_elsewhere}
use Rattle.std.specs.FinMap.{get}
use Rattle.hb_links.proofs.Showing.{Map}
use Rattle.hb_links.proofs.Stirs.{idle_stirs, told_act_stirs}
use Rattle.hb_links.proofs.Totals.{idle_counts, act_counts}
use Rattle.hb_links.proofs.Walking.{none_acts, some_acts}
use Rattle.hb_links.proofs.links.Links.act_of.Goals as goal

pub returns-in_default-next_act-clause-acts : goal.returns-in_default-next_act-clause-acts
returns-in_default-next_act-clause-acts c =
    let new = c.next_act.new.self in
    none_acts c.args.self.now _ c.args.number c.in-Some.link.now new c.in-Some.ensures.value (c.at.follows.holds new)
    c.in_default-next_act.ensures.acts

pub returns-clause-acts : goal.returns-clause-acts
returns-clause-acts c =
    let new = c.next_act.new.self in
    some_acts c.args.self.now c.finish.new.self _ c.args.number _ c.in-Some.link.now new c.in-Some-next_act.act c.in-Some.ensures.value
    (c.at.follows.holds new) c.finish.ensures c.next_act.ensures.number c.in-Some-next_act.ensures.acts

pub returns-in_default-next_act-clause-stirs : goal.returns-in_default-next_act-clause-stirs
returns-in_default-next_act-clause-stirs c =
    let new = c.next_act.new.self in
    λ n apart. idle_stirs c.args.self.now _ _ c.args.number c.in-Some.link.now new c.in-Some.ensures.value
    c.in_default-next_act.ensures.acts.0 (c.at.follows.holds new) refl n

pub returns-clause-stirs : goal.returns-clause-stirs
returns-clause-stirs c =
    let k = c.args.self.now in
    let l = c.args.number in
    let due = c.in-Some-next_act.act in
    let new = c.next_act.new.self in
    subst (λ (m : Links). StirsBut (closed_in (Some due)) k m) (sym c.finish.ensures)
    (told_act_stirs _ k l due _ c.in-Some.link.now new (c.at.follows.holds new) c.in-Some.ensures.value c.in-Some-next_act.ensures.rouses)

pub returns-in_default-next_act-clause-counts : goal.returns-in_default-next_act-clause-counts
returns-in_default-next_act-clause-counts c =
    let new = c.next_act.new.self in
    idle_counts c.args.self.now _ _ c.args.number c.in-Some.link.now new c.in-Some.ensures.value c.in_default-next_act.ensures.acts.0
    (c.at.follows.holds new) refl

pub returns-clause-counts : goal.returns-clause-counts
returns-clause-counts c =
    let k = c.args.self.now in
    let l = c.args.number in
    let new = c.next_act.new.self in
    let narrow : l < 2 ^ 64 = search rules in
    act_counts k c.finish.new.self l _ c.in-Some-next_act.act _ narrow c.places_at-before.ensures
    (λ j apart. ap (λ (m : Map). get m j) (c.at.follows.holds new) ∙ written_elsewhere k.links l new j apart) c.finish.ensures
