use Rattle.std.proofs.Common.{rules, refl, Some, subst}
use Rattle.hb_world.specs.declared.entry.Entry.TheVariants as e
use Rattle.hb_world.specs.declared.act.Act.{Act}
use Rattle.hb_world.specs.declared.act.Act.TheVariants as act
use Rattle.hb_ready.specs.Registry.{kept}
use Rattle.hb_turns.specs.Shown.{Acts}
use Rattle.hb_turns.specs.Stands.{Stands}
use Rattle.hb_turns.proofs.Holding.{left, on_close, on_shut, stands-grows, stands-acts, unmoved}
use Rattle.hb_turns.proofs.Adding.{adds_close, adds_shut}
use Rattle.hb_turns.proofs.Watching.{watched-closed}
use Rattle.hb_turns.proofs.acts.make_act.Goals as goal

pub returns-in-None-clause-keeps : goal.returns-in-None-clause-keeps
returns-in-None-clause-keeps g c =
    stands-acts g.N.Node.stands g.N.Node.shown c.args.run.now c.next_act.new.self (g.W.World.trace c.args.world.now) c.in-None.ensures.acts

pub returns-in-Some-Close-clause-keeps : goal.returns-in-Some-Close-clause-keeps
returns-in-Some-Close-clause-keeps g c =
    let old = c.args.run.now in
    let new = record old { node = c.next_act.new.self; records = c.forget.new.records } in
    let acts : Acts g.N.Node.stands g.N.Node.shown (Some (act.Close c.in-Some-Close.link c.in-Some-Close.cause)) old.node new.node =
    subst (λ (a : Act). Acts g.N.Node.stands g.N.Node.shown (Some a) old.node new.node) c.in-Some-Close.field-0-is
    (c.in-Some-Close.ensures {u = tt}).acts in
    on_close (Stands g.N.Node.stands g.N.Node.shown old) (Stands g.N.Node.stands g.N.Node.shown new) c.in-Some-Close.link
    c.in-Some-Close.cause (g.W.World.trace c.args.world.now) (g.W.World.trace c.close.new.self) c.close.ensures.adds
    (λ trace s. let it = acts s.matches.notes trace s.matches.node in (
      it.0,
      stands-grows g.N.Node.stands g.N.Node.shown old new (e.Closed c.in-Some-Close.link c.in-Some-Close.cause) trace s
          (record { numbers = it.0; awake = tt; settled = tt }) c.forget.ensures.tracks
          (watched-closed (kept old.records.links) (kept new.records.links) (g.N.Node.shown old.node) c.in-Some-Close.link
          c.in-Some-Close.cause c.forget.ensures.tracks.links c.forget.ensures.listed) refl (it.1, it.2),
    ))

pub returns-in-Some-Shut-clause-keeps : goal.returns-in-Some-Shut-clause-keeps
returns-in-Some-Shut-clause-keeps g c =
    let old = c.args.run.now in
    let new = record old { node = c.next_act.new.self } in
    let acts : Acts g.N.Node.stands g.N.Node.shown (Some (act.Shut c.in-Some-Shut.link)) old.node new.node =
    subst (λ (a : Act). Acts g.N.Node.stands g.N.Node.shown (Some a) old.node new.node) c.in-Some-Shut.field-0-is
    (c.in-Some-Shut.ensures {u = tt}).acts in
    on_shut (Stands g.N.Node.stands g.N.Node.shown old) (Stands g.N.Node.stands g.N.Node.shown new) c.in-Some-Shut.link
    (g.W.World.trace c.args.world.now) (g.W.World.trace c.shut.new.self) c.shut.ensures.adds
    (λ trace s. let it = acts s.matches.notes trace s.matches.node in (
      it.0,
      it.1,
      stands-grows g.N.Node.stands g.N.Node.shown old new (e.Shut c.in-Some-Shut.link) trace s
          (record { numbers = tt; awake = tt; settled = tt }) (unmoved old.records (e.Shut c.in-Some-Shut.link) tt) (λ watched. watched) refl
          (it.2, it.3),
    ))

pub returns-in_ok-dial-in-Some-Dial-clause-keeps : goal.returns-in_ok-dial-in-Some-Dial-clause-keeps
returns-in_ok-dial-in-Some-Dial-clause-keeps g c = λ had.
    let acts : Acts g.N.Node.stands g.N.Node.shown (Some (act.Dial c.in-Some-Dial.to c.in-Some-Dial.why)) c.args.run.now.node
    c.next_act.new.self =
    subst (λ (a : Act). Acts g.N.Node.stands g.N.Node.shown (Some a) c.args.run.now.node c.next_act.new.self) c.in-Some-Dial.field-0-is
    (c.in-Some-Dial.ensures {u = tt}).acts in
    (c.in_ok-dial-in-Some-Dial.ensures {u = tt}).keeps acts.0
    (stands-acts g.N.Node.stands g.N.Node.shown c.args.run.now c.next_act.new.self (g.W.World.trace c.args.world.now) acts.1 had)

pub returns-in_err-dial-in-Some-Dial-clause-keeps : goal.returns-in_err-dial-in-Some-Dial-clause-keeps
returns-in_err-dial-in-Some-Dial-clause-keeps g c = λ had.
    let acts : Acts g.N.Node.stands g.N.Node.shown (Some (act.Dial c.in-Some-Dial.to c.in-Some-Dial.why)) c.args.run.now.node
    c.next_act.new.self =
    subst (λ (a : Act). Acts g.N.Node.stands g.N.Node.shown (Some a) c.args.run.now.node c.next_act.new.self) c.in-Some-Dial.field-0-is
    (c.in-Some-Dial.ensures {u = tt}).acts in
    left g.N.Node.stands g.N.Node.shown c.from_residual.result c.dial.new.run _ (search rules)
    ((c.in_err-dial-in-Some-Dial.ensures {u = tt}).keeps acts.0
    (stands-acts g.N.Node.stands g.N.Node.shown c.args.run.now c.next_act.new.self (g.W.World.trace c.args.world.now) acts.1 had))

pub returns-in-Some-Close-clause-adds : goal.returns-in-Some-Close-clause-adds
returns-in-Some-Close-clause-adds g c = adds_close c.in-Some-Close.link c.in-Some-Close.cause _ _ c.close.ensures.adds

pub returns-in-Some-Shut-clause-adds : goal.returns-in-Some-Shut-clause-adds
returns-in-Some-Shut-clause-adds g c = adds_shut c.in-Some-Shut.link _ _ c.shut.ensures.adds
