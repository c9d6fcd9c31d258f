use Rattle.std.proofs.Common.{Option, None, refl, subst}
use Rattle.hb_links.specs.Stirring.{StirsBut, closed_in}
use Rattle.hb_links.specs.Walks.{ActsOf}
use Rattle.hb_links.proofs.Stirs.{same_stirs, stirs_all_then, stirs_but_then, any_stirs}
use Rattle.hb_links.proofs.Walking.{acts_then, rested}
use Rattle.hb_links.proofs.links.Links.next_act.Goals as goal

pub returns-in_default-act_of-clause-acts : goal.returns-in_default-act_of-clause-acts
returns-in_default-act_of-clause-acts c =
    let first = c.args.self.now in
    let asked = c.act_of.new.self in
    acts_then first (record asked { busy = None }) c.walk-in_default-act_of.new.self c.walk-in_default-act_of.result
    (rested first asked c.in-Some.number c.in-Some.is
    (subst (λ (o : Option _). ActsOf c.in-Some.number o first asked) c.in_default-act_of.is c.act_of.ensures.acts))
    c.walk-in_default-act_of.ensures.acts

pub returns-in_default-act_of-clause-stirs : goal.returns-in_default-act_of-clause-stirs
returns-in_default-act_of-clause-stirs c =
    let first = c.args.self.now in
    let asked = c.act_of.new.self in
    let idle = record asked { busy = None } in
    stirs_but_then first idle c.walk-in_default-act_of.new.self (closed_in c.walk-in_default-act_of.result)
    (stirs_all_then first asked idle
    (any_stirs first asked (subst (λ (o : Option _). StirsBut (closed_in o) first asked) c.in_default-act_of.is c.act_of.ensures.stirs))
    (same_stirs asked idle (λ j. refl) refl refl refl))
    c.walk-in_default-act_of.ensures.stirs
