use Rattle.std.proofs.Common.{rules, ◌<◌, ◌^◌, sym, ap, ◌∙◌, subst}
use Rattle.hb_links.specs.declared.links.Links.{Links}
use Rattle.hb_links.specs.Busy.{touched}
use Rattle.hb_links.specs.Calls.{TurnsAway}
use Rattle.hb_links.proofs.Births.{turns}
use Rattle.hb_links.proofs.Showing.{Map, links_with}
use Rattle.hb_links.proofs.Stirs.{put_stirs}
use Rattle.hb_links.proofs.Totals.{put_counts}
use Rattle.hb_links.proofs.links.Links.turned_away.Goals as goal

pub returns-clause-meets : goal.returns-clause-meets
returns-clause-meets c =
    let k = c.args.self.now in
    let n = c.args.number in
    let narrow : n < 2 ^ 64 = search rules in
    subst (λ (m : Links). TurnsAway n k m)
    (sym (c.touch.ensures ∙ ap (λ (links : Map). touched n c.places_at-before.result (links_with links k.ups k)) c.in_ok-put.ensures.ok))
    (turns _ k n c.in_ok-link.link narrow c.in_ok-link.ensures.turns c.in_ok-link.ensures.number)

pub returns-clause-stirs : goal.returns-clause-stirs
returns-clause-stirs c =
    put_stirs _ c.args.self.now c.touch.new.self _ c.args.number c.in_ok-link.link c.touch.ensures c.in_ok-put.ensures.ok
    c.in_ok-link.ensures.roused

pub returns-clause-counts : goal.returns-clause-counts
returns-clause-counts c =
    let narrow : c.args.number < 2 ^ 64 = search rules in
    put_counts c.args.self.now c.touch.new.self _ c.args.number _ c.in_ok-link.link narrow c.places_at-before.ensures c.touch.ensures
    c.in_ok-put.ensures.ok
