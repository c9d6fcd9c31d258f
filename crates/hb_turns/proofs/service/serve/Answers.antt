use Rattle.std.proofs.Common.{[], IfSome, sym, subst, ◌∙◌}
use Rattle.hb_turns.specs.Served.{IsServed, IsFreshNode, leaves}
use Rattle.hb_turns.specs.declared.served.Served.{Served}
use Rattle.hb_turns.proofs.Serving.{begins, nothing_served}
use Rattle.hb_turns.proofs.service.serve.Goals as goal

pub returns-in_default-clause-served : goal.returns-in_default-clause-served
returns-in_default-clause-served g c = λ untouched.
    subst (λ (s : Served). IfSome (g.W.World.trace c.args.world.now)
    (IsServed g.N.Node.stands g.N.Node.shown c.args.words s (leaves c.args.keep.now c.args.node)))
    (sym c.nothing.ensures)
    (nothing_served g.N.Node.stands g.N.Node.shown c.args.words c.args.keep.now c.args.node (g.W.World.trace c.args.world.now) c.requires.stands
    c.requires.fresh.going untouched)

pub returns-clause-served : goal.returns-clause-served
returns-clause-served g c = λ untouched.
    let run = c.begin-run.result in
    let made = c.begin-run.ensures in
    let fresh = subst (λ n. IsFreshNode (g.N.Node.shown n)) (sym made.node) c.requires.fresh in
    c.serve_run-served.ensures.served fresh.none_closes
    (begins g.N.Node.stands g.N.Node.shown run c.args.keep.now (g.W.World.trace c.args.world.now) made.fresh
    (made.keep ∙ c.emptied.ensures) made.sums (subst (λ n. g.N.Node.stands [] n []) (sym made.node) c.requires.stands) fresh untouched)
