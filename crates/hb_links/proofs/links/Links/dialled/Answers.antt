use Rattle.std.proofs.Common.{rules, ◌<◌, ◌^◌, is_some, sym, ap, ap₂, ◌∙◌, subst}
use Rattle.std.specs.FinMap.{get}
use Rattle.hb_map.proofs.Laws.{written_where_some, written_elsewhere}
use Rattle.hb_links.specs.declared.links.Links.{Links}
use Rattle.hb_links.specs.Busy.{touched}
use Rattle.hb_links.specs.Calls.{Dials}
use Rattle.hb_links.proofs.Births.{dials}
use Rattle.hb_links.proofs.Showing.{Index, Map, links_with}
use Rattle.hb_links.proofs.Stirs.{dial_stirs, no_dial_stirs}
use Rattle.hb_links.proofs.Totals.{touch_counts}
use Rattle.hb_links.proofs.links.Links.dialled.Goals as goal

pub returns-clause-meets : goal.returns-clause-meets
returns-clause-meets c =
    let k = c.args.self.now in
    let l = c.args.link in
    let s = c.args.stream in
    let u = c.args.number in
    let old = c.in-Some.at.now in
    let new = c.dialled.new.self in
    let is = c.in-Some.ensures.value in
    subst (λ (m : Links). Dials l s u k m)
    (sym (c.touch-2.ensures ∙ ap₂ (λ (links : Map) (ups : Index). touched l c.places_at-before.result (links_with links ups k))
    (c.at.follows.holds new ∙ written_where_some k.links l new (ap is_some is)) c.in_ok-put.ensures.ok))
    (dials _ k l s u old new is c.dialled.ensures.enters)

pub returns-clause-stirs : goal.returns-clause-stirs
returns-clause-stirs c =
    let new = c.dialled.new.self in
    dial_stirs _ c.args.self.now c.touch-2.new.self _ _ c.args.link c.args.stream c.args.number c.in-Some.at.now new
    c.in-Some.ensures.value (c.at.follows.holds new) c.dialled.ensures.rouses c.dialled.ensures.here c.in_ok-put.ensures.ok
    c.touch-2.ensures

-- also where the link isn't found
pub returns-in_default-clause-stirs : goal.returns-in_default-clause-stirs
returns-in_default-clause-stirs c =
    no_dial_stirs _ c.args.self.now c.touch.new.self _ _ c.args.link c.args.stream c.args.number c.in_default.ensures.none
    c.at.follows.holds-at-none c.in_ok-put.ensures.ok c.touch.ensures

pub returns-in_default-clause-counts : goal.returns-in_default-clause-counts
returns-in_default-clause-counts c =
    let narrow : c.args.link < 2 ^ 64 = search rules in
    touch_counts c.args.self.now c.touch.new.self _ _ c.args.link _ narrow c.places_at-before.ensures c.touch.ensures
    (λ j apart. ap (λ (m : Map). get m j) c.at.follows.holds-at-none)

pub returns-clause-counts : goal.returns-clause-counts
returns-clause-counts c =
    let k = c.args.self.now in
    let new = c.dialled.new.self in
    let narrow : c.args.link < 2 ^ 64 = search rules in
    touch_counts k c.touch-2.new.self _ _ c.args.link _ narrow c.places_at-before.ensures c.touch-2.ensures
    (λ j apart. ap (λ (m : Map). get m j) (c.at.follows.holds new) ∙ written_elsewhere k.links c.args.link new j apart)
