use Rattle.std.proofs.Common.{◌+◌, ◌==◌, not, rules, arith}
use Rattle.hb_turns.specs.Reckons.{Reckons}
use Rattle.hb_turns.specs.declared.served.ServeEnd.TheVariants as ends
use Rattle.hb_turns.proofs.Counting.{reckons_adds, reckons_fewer, turns_after, lack_finishes, ends_within, lack_turns, turned_later, no_ok, all_ok, each_ok, on_ok, paid_round, paid_wait, none_made}
use Rattle.hb_turns.proofs.Holding.{each, left}
use Rattle.hb_turns.proofs.Leading.{round_leads}
use Rattle.hb_turns.proofs.Looking.{round_look, round_counts, none_fits, lacked_looks}
use Rattle.hb_turns.proofs.turns.turn.Goals as goal

pub returns-then-not-has_work-clause-keeps : goal.returns-then-not-has_work-clause-keeps
returns-then-not-has_work-clause-keeps g c = λ idle. c.wait.ensures.keeps idle (c.has_work.ensures.quiet c.if-not-has_work.true)

pub returns-then-not-has_work-clause-turned : goal.returns-then-not-has_work-clause-turned
returns-then-not-has_work-clause-turned g c = λ t n paid. (
  n + 2,
  all_ok c.wait.result _ (λ end none. paid_wait t n c.args.run.now.records c.wait.new.run.records paid),
  λ words w had. c.wait.ensures.turned words n w had,
)

pub returns-then-not-has_work-clause-looks : goal.returns-then-not-has_work-clause-looks
returns-then-not-has_work-clause-looks g c = λ n fits. (0, all_ok c.wait.result _ (λ end. none_fits _), λ had. c.wait.ensures.looks n had)

pub returns-in_err-made-clause-turned : goal.returns-in_err-made-clause-turned
returns-in_err-made-clause-turned g c = λ t n paid. (
  n,
  no_ok c.from_residual.result _ (search rules),
  λ words w had.
      lack_turns c.from_residual.result words c.args.ticks.now n (w + 1) _ (search rules)
      (ends_within words ends.NoMemory (w + 1) _
      (λ within. lack_finishes words c.args.ticks.now n (w + 1) _ within
      (each (Reckons words c.args.ticks.now n w) (Reckons words c.args.ticks.now n (w + 1)) _
      (λ trace r. reckons_fewer words c.args.ticks.now n n w (w + 1) trace (omega arith) (omega arith) r)
      (reckons_adds words c.args.ticks.now n w _ _ _ (c.in_err-made.ensures {u = tt}).tried.adds had)))),
)

pub returns-in_err-made-clause-looks : goal.returns-in_err-made-clause-looks
returns-in_err-made-clause-looks g c = λ n fits. (
  n + 68,
  no_ok c.from_residual.result _ (search rules),
  λ had. lacked_looks c.from_residual.result (n + 68) _ (search rules)
      (round_look n 68 c.args.unseen.now c.args.run.now.records _ _ fits (c.has_work.ensures.work c.if-not-has_work.false) (omega arith)
      (c.in_err-made.ensures {u = tt}).tried.adds had),
)

pub returns-in_err-made-clause-keeps : goal.returns-in_err-made-clause-keeps
returns-in_err-made-clause-keeps g c = λ idle had.
    left g.N.Node.stands g.N.Node.shown c.from_residual.result c.round.new.run _ (search rules)
    ((c.in_err-made.ensures {u = tt}).tried.keeps idle had)

pub returns-clause-keeps : goal.returns-clause-keeps
returns-clause-keeps g c = λ idle had.
    let round = c.in_ok-made.ensures {u = tt} in c.look_up.ensures.keeps (round.tried.idle idle) (round.tried.keeps idle had)

pub returns-clause-turned : goal.returns-clause-turned
returns-clause-turned g c = λ t n paid.
    let round = c.in_ok-made.ensures {u = tt} in
    let moved = not (c.in_ok-made.made == 0) in (
      turns_after moved n,
      all_ok c.look_up.result _
          (λ end none. paid_round moved t n c.args.run.now.records c.round.new.run.records c.look_up.new.run.records
          (c.has_work.ensures.work c.if-not-has_work.false) (λ still. round.rests (none_made c.in_ok-made.made still)) c.look_up.ensures.quiet paid),
      λ words w had.
          turned_later c.look_up.result words c.look_up.new.ticks (turns_after moved n) w _
          (c.look_up.ensures.turned words (turns_after moved n) w (reckons_adds words c.args.ticks.now n w _ _ _ round.tried.adds had)),
    )

pub returns-clause-looks : goal.returns-clause-looks
returns-clause-looks g c = λ n fits.
    let round = c.in_ok-made.ensures {u = tt} in
    let work = c.has_work.ensures.work c.if-not-has_work.false in
    let more = c.look_up.ensures.looks (n + c.in_ok-made.made)
    (round_counts n c.in_ok-made.made c.args.unseen.now _ c.args.run.now.records fits work round.most c.saturating_add.ensures) in (
      more.0,
      more.1,
      λ had. more.2 (round_look n c.in_ok-made.made c.args.unseen.now c.args.run.now.records _ _ fits work round.most round.tried.adds had),
    )

pub returns-clause-idle : goal.returns-clause-idle
returns-clause-idle g c =
    each_ok c.look_up.result _ _ (λ end so is idle. so is ((c.in_ok-made.ensures {u = tt}).tried.idle idle)) c.look_up.ensures.idle

pub returns-clause-closes : goal.returns-clause-closes
returns-clause-closes g c =
    on_ok c.look_up.result _ _ (λ so idle. so ((c.in_ok-made.ensures {u = tt}).tried.idle idle)) c.look_up.ensures.closes

pub returns-then-not-has_work-clause-leads : goal.returns-then-not-has_work-clause-leads
returns-then-not-has_work-clause-leads g c = λ stood law. c.wait.ensures.leads law

pub returns-in_err-made-clause-leads : goal.returns-in_err-made-clause-leads
returns-in_err-made-clause-leads g c = λ stood law.
    round_leads g.N.Node.stands g.N.Node.shown c.args.run.now _ _ (c.in_err-made.ensures {u = tt}).leads stood law

pub returns-clause-leads : goal.returns-clause-leads
returns-clause-leads g c = λ stood law.
    c.look_up.ensures.leads
    (round_leads g.N.Node.stands g.N.Node.shown c.args.run.now _ _ (c.in_ok-made.ensures {u = tt}).leads stood law)
