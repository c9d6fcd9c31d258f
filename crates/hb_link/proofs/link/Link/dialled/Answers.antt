use Rattle.std.proofs.Common.{[], Some, is_some, sym, ap, subst, ◌∙◌}
use Rattle.std.specs.Prelude.{⊤}
use Rattle.hb_map.proofs.Laws.{written_elsewhere, written_where_some}
use Rattle.hb_world.specs.declared.entry.Entry.TheVariants as e
use Rattle.hb_inbound.specs.Part.{up}
use Rattle.hb_link.specs.Calls.{UpEnters}
use Rattle.hb_link.specs.Counting.{uncounted}
use Rattle.hb_link.specs.declared.tunnel.Stage.TheVariants.{Opening}
use Rattle.hb_link.proofs.Dialling.{dialled}
use Rattle.hb_link.proofs.Moving.{Map, link_with}
use Rattle.std.specs.FinMap.{get}
use Rattle.hb_link.proofs.Rousing.{rouses_one}
use Rattle.hb_link.proofs.Still.{meets_still}
use Rattle.hb_link.proofs.link.Link.dialled.Goals as goal

pub returns-clause-enters : goal.returns-clause-enters
returns-clause-enters c = λ to why.
    let k = c.args.self.now in
    let old = c.in-Some.tunnel.now in
    let is = c.at.follows.holds (record old { stage = Opening; up = c.args.link })
    ∙ written_where_some k.tunnels c.args.stream (record old { stage = Opening; up = c.args.link }) (ap is_some c.in-Some.ensures.value) in
    meets_still uncounted (λ a. ⊤) (up c.args.stream (e.Dialled c.args.link to why)) k _ c.add.new.self (Some []) (Some [])
    (subst (λ (tunnels : Map). UpEnters c.args.stream (e.Dialled c.args.link to why) k (Some []) (link_with k.conn tunnels k) (Some [])) (sym is)
    (dialled k c.args.stream c.args.link to why old c.in-Some.ensures.value))

pub returns-clause-rouses : goal.returns-clause-rouses
returns-clause-rouses c =
    let k = c.args.self.now in
    let new = record c.in-Some.tunnel.now { stage = Opening; up = c.args.link } in
    rouses_one k _ c.args.stream c.add.ensures
    (λ j apart. ap (λ (t : Map). get t j) (c.at.follows.holds new) ∙ written_elsewhere k.tunnels c.args.stream new j apart)

pub returns-in_default-clause-rouses : goal.returns-in_default-clause-rouses
returns-in_default-clause-rouses c =
    rouses_one c.args.self.now _ c.args.stream c.add.ensures (λ j apart. ap (λ (t : Map). get t j) c.at.follows.holds-at-none)

pub returns-clause-here : goal.returns-clause-here
returns-clause-here c = c.add.ensures.here

pub returns-in_default-clause-here : goal.returns-in_default-clause-here
returns-in_default-clause-here c = c.add.ensures.here
