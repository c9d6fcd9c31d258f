use Rattle.std.proofs.Common.{true, inr, Ok, rules}
use Rattle.std.specs.declared.alloc.AllocError.{AllocError}
use Rattle.hb_turns.specs.declared.round.Call.TheVariants as call
use Rattle.hb_turns.proofs.Adding.{adds_lacked, adds_less, adds_moved, adds_then}
use Rattle.hb_turns.proofs.Counting.{no_ok}
use Rattle.hb_turns.proofs.Holding.{left}
use Rattle.hb_turns.proofs.Leading.{heads_any, heads_then}
use Rattle.hb_turns.proofs.link.read_last.Goals as goal

pub returns-in_err-write-clause-adds : goal.returns-in_err-write-clause-adds
returns-in_err-write-clause-adds g c =
    adds_lacked {E = AllocError} (call.Read c.args.link) (Ok true) c.from_residual-in_err-write.result true _ _ (search rules)
    (adds_then true _ _ _ (adds_moved AllocError (call.Read c.args.link) c.in_ok-came.came _ _ c.if-not-came.false (c.in_ok-came.ensures {u = tt}).adds)
    (c.in_err-write.ensures {u = tt}).adds)

pub returns-clause-adds : goal.returns-clause-adds
returns-clause-adds g c =
    adds_then true _ _ _ (adds_moved AllocError (call.Read c.args.link) c.in_ok-came.came _ _ c.if-not-came.false (c.in_ok-came.ensures {u = tt}).adds)
    (adds_less _ _ _ (c.in_ok-write.ensures {u = tt}).adds)

pub returns-clause-keeps : goal.returns-clause-keeps
returns-clause-keeps g c = λ idle had.
    (c.in_ok-write.ensures {u = tt}).keeps (inr (search rules)) ((c.in_ok-came.ensures {u = tt}).keeps idle had)

pub returns-in_err-write-clause-keeps : goal.returns-in_err-write-clause-keeps
returns-in_err-write-clause-keeps g c = λ idle had.
    left g.N.Node.stands g.N.Node.shown c.from_residual-in_err-write.result c.write.new.run _ (search rules)
    ((c.in_err-write.ensures {u = tt}).keeps (inr (search rules)) ((c.in_ok-came.ensures {u = tt}).keeps idle had))

pub returns-in_err-came-clause-leads : goal.returns-in_err-came-clause-leads
returns-in_err-came-clause-leads g c =
    heads_any _ _ (λ any. no_ok c.from_residual.result _ (search rules)) (c.in_err-came.ensures {u = tt}).leads

pub returns-in_err-write-clause-leads : goal.returns-in_err-write-clause-leads
returns-in_err-write-clause-leads g c =
    heads_then _ _ _ (λ rests. no_ok c.from_residual-in_err-write.result _ (search rules)) (λ rests x. inr rests)
    (c.in_ok-came.ensures {u = tt}).leads (c.in_err-write.ensures {u = tt}).adds

pub returns-clause-leads : goal.returns-clause-leads
returns-clause-leads g c =
    heads_then _ _ _ (λ rests. rests) (λ rests x. inr rests) (c.in_ok-came.ensures {u = tt}).leads (c.in_ok-write.ensures {u = tt}).adds
