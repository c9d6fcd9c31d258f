use Rattle.std.proofs.Common.{rules, ◌≡◌, [], ◌∷◌, is_some, Some, refl, sym, ap, subst, ◌∙◌, false}
use Rattle.std.specs.Prelude.{⊤}
use Rattle.std.specs.FinMap.{get, insert}
use Rattle.hb_base.specs.declared.note.Note.TheVariants as note
use Rattle.hb_conn.specs.Connection.{Connection}
use Rattle.hb_conn.specs.Observed.{own_side_open}
use Rattle.hb_map.proofs.Laws.{written_elsewhere, written_where_some}
use Rattle.hb_world.specs.declared.entry.Entry.TheVariants as e
use Rattle.hb_inbound.specs.Part.{up}
use Rattle.hb_link.specs.declared.tunnel.Tunnel.{Tunnel}
use Rattle.hb_link.specs.Calls.{UpEnters}
use Rattle.hb_link.specs.Noted.{Takes}
use Rattle.hb_link.specs.Counting.{uncounted}
use Rattle.hb_link.specs.Tunnels.{opened_on}
use Rattle.hb_link.proofs.Moving.{Map, link_with}
use Rattle.hb_link.proofs.Opening.{opened, not_opened}
use Rattle.hb_link.proofs.Rousing.{rouses_one, rouses_same}
use Rattle.hb_link.proofs.Still.{meets_still}
use Rattle.hb_link.proofs.link.Link.up_opened.Goals as goal

pub returns-clause-enters : goal.returns-clause-enters
returns-clause-enters g c = λ u.
    let k = c.args.self.now in
    let s = c.args.stream in
    let old = c.in-Some.tunnel.now in
    let told = g.N.Notes.told c.args.notes.now in
    let is = c.at.follows.holds c.open.new.self ∙ written_where_some k.tunnels s c.open.new.self (ap is_some c.in-Some.ensures.value)
    ∙ ap (λ (t : Tunnel). insert k.tunnels s t) c.open.ensures in
    let now = g.N.Notes.told c.verdict.new.self in
    let took = subst (λ (t : Tunnel). Takes told (note.Verdict k.number s 200 k.peer (Some t.target) ∷ []) now) c.open.ensures
    c.verdict.ensures in
    meets_still uncounted (λ a. ⊤) (up s (e.Opened u)) k _ c.add.new.self told now
    (subst (λ (tunnels : Map). UpEnters s (e.Opened u) k told (link_with c.put_status.new.self tunnels k) now) (sym is)
    (subst (λ (d : Connection). UpEnters s (e.Opened u) k told (link_with d (insert k.tunnels s (opened_on old)) k) now)
    (sym c.put_status.ensures) (opened k s u told old c.in-Some.ensures.value now took)))

pub returns-then-not-sides-clause-enters : goal.returns-then-not-sides-clause-enters
returns-then-not-sides-clause-enters g c = λ u.
    let shut : own_side_open c.args.self.now.conn c.args.stream ≡ false = search rules in
    not_opened c.args.self.now c.args.stream u (g.N.Notes.told c.args.notes.now) shut

pub returns-clause-rouses : goal.returns-clause-rouses
returns-clause-rouses g c =
    let k = c.args.self.now in
    rouses_one k _ c.args.stream c.add.ensures
    (λ j apart. ap (λ (t : Map). get t j) (c.at.follows.holds c.open.new.self)
    ∙ written_elsewhere k.tunnels c.args.stream c.open.new.self j apart)

pub returns-then-not-sides-clause-rouses : goal.returns-then-not-sides-clause-rouses
returns-then-not-sides-clause-rouses g c = rouses_same c.args.self.now c.args.self.now refl refl

pub returns-in_default-clause-rouses : goal.returns-in_default-clause-rouses
returns-in_default-clause-rouses g c = rouses_same c.args.self.now _ refl c.at.follows.holds-at-none
