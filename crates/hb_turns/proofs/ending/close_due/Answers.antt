use Rattle.std.proofs.Common.{Option, IsSome, Some, rules, subst}
use Rattle.hb_base.specs.declared.cause.Cause.{Cause}
use Rattle.hb_ready.specs.Registry.{kept}
use Rattle.hb_turns.specs.Shown.{Acts, ActsFor}
use Rattle.hb_world.specs.declared.act.Act.{Act}
use Rattle.hb_world.specs.declared.act.Act.TheVariants as act
use Rattle.hb_turns.proofs.Adding.{closes_one}
use Rattle.hb_turns.proofs.Closing.{obeys_closed, matches_acts, matches_closed}
use Rattle.hb_turns.proofs.ending.close_due.Goals as goal

pub returns-in-None-clause-keeps : goal.returns-in-None-clause-keeps
returns-in-None-clause-keeps g c =
    matches_acts g.N.Node.stands g.N.Node.shown c.args.run.now c.next_act.new.self (g.W.World.trace c.args.world.now) c.in-None.ensures.acts

pub returns-else-is_none-clause-obeys : goal.returns-else-is_none-clause-obeys
returns-else-is_none-clause-obeys g c =
    let some : IsSome ((kept c.args.run.now.records.links).links c.in-Some-Close.link) = search rules in
    obeys_closed g.N.Node.stands g.N.Node.shown c.args.run.now.records c.forget.new.records c.in-Some-Close.link c.in-Some-Close.why _ _
    c.close.ensures.adds some c.forget.ensures.tracks

pub returns-else-is_none-clause-keeps : goal.returns-else-is_none-clause-keeps
returns-else-is_none-clause-keeps g c =
    let acts : Acts g.N.Node.stands g.N.Node.shown (Some (act.Close c.in-Some-Close.link c.in-Some-Close.why)) c.args.run.now.node
    c.next_act.new.self =
    subst (λ (a : Act). Acts g.N.Node.stands g.N.Node.shown (Some a) c.args.run.now.node c.next_act.new.self) c.in-Some-Close.field-0-is
    (c.in-Some-Close.ensures {u = tt}).acts in
    matches_closed g.N.Node.stands g.N.Node.shown c.args.run.now c.next_act.new.self c.forget.new.records c.in-Some-Close.link
    c.in-Some-Close.why _ _ c.close.ensures.adds acts c.forget.ensures.tracks

pub returns-else-is_none-clause-closes : goal.returns-else-is_none-clause-closes
returns-else-is_none-clause-closes g c =
    let why : ActsFor (Some c.args.cause) (Some (act.Close c.in-Some-Close.link c.in-Some-Close.why)) =
    subst (λ (a : Act). ActsFor (Some c.args.cause) (Some a)) c.in-Some-Close.field-0-is
    (subst (λ (o : Option Cause). ActsFor o (Some c.in-Some-Close.field-0)) c.requires (c.in-Some-Close.ensures {u = tt}).closes) in
    closes_one c.in-Some-Close.link c.args.cause c.in-Some-Close.why _ _ c.close.ensures.adds why
