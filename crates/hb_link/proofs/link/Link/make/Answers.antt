use Rattle.std.proofs.Common.{true, Some, is_some, refl, sym, ap, subst, ◌∙◌}
use Rattle.hb_world.specs.declared.act.Act.{Act}
use Rattle.hb_link.specs.Acts.{Acts}
use Rattle.hb_link.proofs.Acting.{dials, shuts, closes_up}
use Rattle.std.specs.FinMap.{get}
use Rattle.hb_map.proofs.Laws.{written_where_some}
use Rattle.hb_link.proofs.Moving.{Map}
use Rattle.hb_link.proofs.Quiet.{Quiet, removed_quiet, ways_quiet}
use Rattle.hb_link.proofs.Rousing.{rouses_none, rouses_put, rouses_same}
use Rattle.hb_link.proofs.link.Link.make.Goals as goal

pub returns-in-Dial-clause-acts : goal.returns-in-Dial-clause-acts
returns-in-Dial-clause-acts c =
    let k = c.args.self.now in
    subst (λ (due : Act). Acts (Some due) k k) (sym c.in-Dial.is)
    (dials k c.args.stream c.in-Dial.to c.in-Dial.why (c.requires.due ∙ ap Some c.in-Dial.is) c.requires.first)

pub returns-in-Some-clause-acts : goal.returns-in-Some-clause-acts
returns-in-Some-clause-acts c =
    let k = c.args.self.now in
    let old = c.in-Some.tunnel.now in
    let map = c.at.follows.lender (record old { shut = true }) in
    subst (λ (due : Act). Acts (Some due) k (record k { tunnels = map })) (sym c.in-Shut.is)
    (shuts k c.args.stream c.in-Shut.link old map c.in-Some.ensures.value (c.at.follows.holds (record old { shut = true }))
    (c.requires.due ∙ ap Some c.in-Shut.is) c.requires.first)

pub returns-in-Close-clause-acts : goal.returns-in-Close-clause-acts
returns-in-Close-clause-acts c =
    let k = c.args.self.now in
    let map = c.remove.new.self in
    subst (λ (due : Act). Acts (Some due) k (record k { tunnels = map })) (sym c.in-Close.is)
    (closes_up k c.args.stream c.in-Close.link c.in-Close.cause map c.remove.ensures.rest (c.requires.due ∙ ap Some c.in-Close.is)
    c.requires.first)

pub returns-in-Dial-clause-rouses : goal.returns-in-Dial-clause-rouses
returns-in-Dial-clause-rouses c = rouses_same c.args.self.now c.args.self.now refl refl

pub returns-in-Some-clause-rouses : goal.returns-in-Some-clause-rouses
returns-in-Some-clause-rouses c =
    let k = c.args.self.now in
    let old = c.in-Some.tunnel.now in
    let new = record old { shut = true } in
    rouses_put k _ c.args.stream old new c.in-Some.ensures.value refl
    (c.at.follows.holds new ∙ written_where_some k.tunnels c.args.stream new (ap is_some c.in-Some.ensures.value))
    (ways_quiet old new refl (λ was. was) (λ was. was))

pub returns-in_default-clause-rouses : goal.returns-in_default-clause-rouses
returns-in_default-clause-rouses c = rouses_same c.args.self.now _ refl c.at.follows.holds-at-none

pub returns-in-Close-clause-rouses : goal.returns-in-Close-clause-rouses
returns-in-Close-clause-rouses c =
    let k = c.args.self.now in
    rouses_none k _ refl
    (λ j. subst (λ (t : Map). Quiet (get k.tunnels j) (get t j)) (sym c.remove.ensures.rest) (removed_quiet k.tunnels c.args.stream j))
