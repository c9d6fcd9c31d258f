use Rattle.std.proofs.Common.{◌≡◌, List, [], ◌++◌, IfSome, rules, sym, subst, append_assoc}
use Rattle.hb_base.specs.declared.door.Door.TheVariants.{Inbound, Outbound, Plain}
use Rattle.hb_turns.specs.Listens.{DoorAt, given_at}
use Rattle.hb_turns.specs.Reckons.{Begun, FailsAt}
use Rattle.hb_turns.specs.Stands.{Stands}
use Rattle.hb_turns.specs.declared.served.ServeEnd.TheVariants as ends
use Rattle.hb_turns.proofs.Listening.{begun_fails, begun_lacks, begun_more}
use Rattle.hb_turns.proofs.listens.listen.Goals as goal

pub returns-in_err-end-clause-begun : goal.returns-in_err-end-clause-begun
returns-in_err-end-clause-begun g c = λ had.
    let a = given_at Inbound c.args.doors.inbound in
    let b = given_at Outbound c.args.doors.outbound in
    let d = given_at Plain c.args.doors.plain in
    subst (λ (ds : List DoorAt). IfSome (g.W.World.trace c.listen_at.new.world)
    (Begun g.N.Node.stands g.N.Node.shown c.from_residual.result c.listen_at.new.run ds)) (sym (append_assoc a b d))
    (begun_lacks g.N.Node.stands g.N.Node.shown c.from_residual.result c.listen_at.new.run a (b ++ d) _ (search rules)
    ((c.in_err-end.ensures {u = tt}).begun [] had))

pub returns-in_err-end-2-clause-begun : goal.returns-in_err-end-2-clause-begun
returns-in_err-end-2-clause-begun g c = λ had.
    let a = given_at Inbound c.args.doors.inbound in
    let b = given_at Outbound c.args.doors.outbound in
    begun_lacks g.N.Node.stands g.N.Node.shown c.from_residual-in_err-end-2.result c.listen_at-2.new.run (a ++ b)
    (given_at Plain c.args.doors.plain) _ (search rules)
    ((c.in_err-end-2.ensures {u = tt}).begun a (begun_more g.N.Node.stands g.N.Node.shown c.in_ok-end.field-0 c.listen_at.new.run a _
    c.in-None.is ((c.in_ok-end.ensures {u = tt}).begun [] had)))

pub returns-in-Some-clause-begun : goal.returns-in-Some-clause-begun
returns-in-Some-clause-begun g c = λ had.
    let a = given_at Inbound c.args.doors.inbound in
    let b = given_at Outbound c.args.doors.outbound in
    let d = given_at Plain c.args.doors.plain in
    let run = c.listen_at.new.run in
    subst (λ (ds : List DoorAt). IfSome (g.W.World.trace c.listen_at.new.world)
    (λ trace. (c.in-Some.end ≡ ends.WorldFault) × Stands g.N.Node.stands g.N.Node.shown run trace × FailsAt ds trace))
    (sym (append_assoc a b d))
    (begun_fails g.N.Node.stands g.N.Node.shown c.in_ok-end.field-0 c.in-Some.end run a (b ++ d) _ c.in-Some.is
    ((c.in_ok-end.ensures {u = tt}).begun [] had))

pub returns-in-Some-2-clause-begun : goal.returns-in-Some-2-clause-begun
returns-in-Some-2-clause-begun g c = λ had.
    let a = given_at Inbound c.args.doors.inbound in
    let b = given_at Outbound c.args.doors.outbound in
    begun_fails g.N.Node.stands g.N.Node.shown c.in_ok-end-2.field-0 c.in-Some-2.end c.listen_at-2.new.run (a ++ b)
    (given_at Plain c.args.doors.plain) _ c.in-Some-2.is
    ((c.in_ok-end-2.ensures {u = tt}).begun a (begun_more g.N.Node.stands g.N.Node.shown c.in_ok-end.field-0 c.listen_at.new.run a _
    c.in-None.is ((c.in_ok-end.ensures {u = tt}).begun [] had)))

pub returns-clause-begun : goal.returns-clause-begun
returns-clause-begun g c = λ had.
    let a = given_at Inbound c.args.doors.inbound in
    let b = given_at Outbound c.args.doors.outbound in
    c.listen_at-3.ensures.begun (a ++ b)
    (begun_more g.N.Node.stands g.N.Node.shown c.in_ok-end-2.field-0 c.listen_at-2.new.run (a ++ b) _ c.in-None-2.is
    ((c.in_ok-end-2.ensures {u = tt}).begun a (begun_more g.N.Node.stands g.N.Node.shown c.in_ok-end.field-0 c.listen_at.new.run a _
    c.in-None.is ((c.in_ok-end.ensures {u = tt}).begun [] had))))
