use Rattle.hb_turns.proofs.Adding.{closes_both}
use Rattle.hb_turns.proofs.Closing.{matches_stopped, notes_held}
use Rattle.hb_turns.proofs.Counting.{on_ok}
use Rattle.hb_turns.proofs.ending.end_run.Goals as goal

pub returns-clause-closes : goal.returns-clause-closes
returns-clause-closes g c = closes_both _ _ _ _ c.close_dues-made.ensures.closes c.close_all.ensures.closes

pub returns-clause-noted : goal.returns-clause-noted
returns-clause-noted g c =
    on_ok c.take_notes.result _ _
    (λ noted none had. noted
    (c.close_all.ensures.alone ((c.in_ok-made.ensures {u = tt}).alone
    (matches_stopped g.N.Node.stands g.N.Node.shown c.args.run.now c.stop.new.self _ c.stop.ensures.stands none had))))
    (notes_held g.N.Node.stands g.N.Node.shown c.take_notes.result c.close_all.new.run c.take_notes.new.run _ c.take_notes.ensures.keeps
    c.take_notes.ensures.taken)

pub returns-in_err-made-clause-closes : goal.returns-in_err-made-clause-closes
returns-in_err-made-clause-closes g c = closes_both _ _ _ _ c.close_dues-made.ensures.closes c.close_all.ensures.closes
