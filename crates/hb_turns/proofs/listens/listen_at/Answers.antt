use Rattle.std.proofs.Common.{◌≡◌, Option, ◌++◌, true, false, IfSome, refl, sym, subst}
use Rattle.hb_base.specs.declared.target.Target.{Target}
use Rattle.hb_turns.specs.Listens.{given_at, listen_at}
use Rattle.hb_turns.specs.Reckons.{Begins, FailsAt}
use Rattle.hb_turns.specs.Stands.{Stands}
use Rattle.hb_turns.specs.declared.served.ServeEnd.TheVariants as ends
use Rattle.hb_turns.proofs.Listening.{listen_tracks, listens_on, listen_fails}
use Rattle.hb_turns.proofs.listens.listen_at.Goals as goal

pub returns-in-Listening-clause-begun : goal.returns-in-Listening-clause-begun
returns-in-Listening-clause-begun g c = λ made had.
    let run = c.args.run.now in
    let new = record run { records = record run.records { asked = c.set.new.self } } in
    subst (λ (o : Option Target). IfSome (g.W.World.trace c.listen.new.self)
    (Begins g.N.Node.stands g.N.Node.shown new (made ++ given_at c.args.door o))) (sym c.in-Some.is)
    (listens_on g.N.Node.stands g.N.Node.shown run new made (c.args.door, c.in-Some.at) _ _ c.in-Listening.ensures.adds refl refl
    (λ notes trace. g.met.N.Node.rests notes run.node trace (listen_at true (c.args.door, c.in-Some.at)))
    (listen_tracks run.records c.set.new.self c.args.door c.in-Some.at true c.set.ensures) (λ watched. watched) had)

pub returns-in-Failed-clause-begun : goal.returns-in-Failed-clause-begun
returns-in-Failed-clause-begun g c = λ made had.
    let run = c.args.run.now in
    let new = record run { records = record run.records { asked = c.set-in-Failed.new.self } } in
    subst (λ (o : Option Target). IfSome (g.W.World.trace c.listen.new.self)
    (λ trace. (ends.WorldFault ≡ ends.WorldFault) × Stands g.N.Node.stands g.N.Node.shown new trace
    × FailsAt (made ++ given_at c.args.door o) trace)) (sym c.in-Some.is)
    (listen_fails g.N.Node.stands g.N.Node.shown run new made (c.args.door, c.in-Some.at) _ _ c.in-Failed.ensures.adds refl refl
    (λ notes trace. g.met.N.Node.rests notes run.node trace (listen_at false (c.args.door, c.in-Some.at)))
    (listen_tracks run.records c.set-in-Failed.new.self c.args.door c.in-Some.at false c.set-in-Failed.ensures) (λ watched. watched) had)
