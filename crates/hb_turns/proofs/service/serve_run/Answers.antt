use Rattle.std.proofs.Common.{Bool, IfSome, ◌∙◌, ap, is_err, subst, sym}
use Rattle.hb_base.specs.declared.cause.Cause.{Cause}
use Rattle.hb_turns.specs.Ends.{cause_at}
use Rattle.hb_turns.specs.Reckons.{Closes}
use Rattle.hb_turns.specs.Served.{IsServed, leaves}
use Rattle.hb_turns.specs.declared.served.ServeEnd.{ServeEnd}
use Rattle.hb_turns.proofs.Closing.{is_served, left_obeys, outcome}
use Rattle.hb_turns.proofs.Counting.{on_ok}
use Rattle.hb_turns.proofs.service.serve_run.Goals as goal

pub returns-clause-served : goal.returns-clause-served
returns-clause-served g c = λ none had.
    let new = c.end_run-noted.new.run in
    let left_so = c.run_on.ensures.keeps had in
    let cause_is = c.cause_at.ensures ∙ ap cause_at c.end_of-end.ensures in
    let closes = subst (λ (why : Cause). Closes why (g.W.World.trace c.run_on.new.world) (g.W.World.trace c.end_run-noted.new.world)) cause_is
    c.end_run-noted.ensures.closes in
    let served = is_served g.N.Node.stands g.N.Node.shown c.args.words c.run_on.result c.end_run-noted.result c.run_on.new.run new
    (g.W.World.trace c.run_on.new.world) (g.W.World.trace c.end_run-noted.new.world) left_so (c.run_on.ensures.finishes had) (c.run_on.ensures.looks had)
    (c.run_on.ensures.leads had) closes
    (c.end_run-noted.ensures.obeys (left_obeys g.N.Node.stands g.N.Node.shown c.run_on.result c.run_on.new.run _ left_so))
    c.end_run-noted.ensures.none
    (on_ok c.run_on.result _ _ (λ so. so none) c.run_on.ensures.closes) c.run_on.ensures.rests c.end_run-noted.ensures.noted in
    subst (λ (b : Bool). IfSome (g.W.World.trace c.end_run-noted.new.world) (IsServed g.N.Node.stands g.N.Node.shown c.args.words
    (outcome c.end_of-end.result new.records new.taken.sums b) (leaves new.taken.keep new.node))) (sym c.is_err.ensures.value)
    (subst (λ (end : ServeEnd). IfSome (g.W.World.trace c.end_run-noted.new.world) (IsServed g.N.Node.stands g.N.Node.shown c.args.words
    (outcome end new.records new.taken.sums (is_err c.end_run-noted.result)) (leaves new.taken.keep new.node)))
    (sym c.end_of-end.ensures) served)
