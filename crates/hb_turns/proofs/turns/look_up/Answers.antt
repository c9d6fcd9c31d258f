use Rattle.std.proofs.Common.{inl, inr}
use Rattle.hb_turns.proofs.Counting.{all_ok}
use Rattle.hb_turns.proofs.Looking.{none_fits}
use Rattle.hb_turns.proofs.turns.look_up.Goals as goal

pub returns-then-not-has_work-clause-looks : goal.returns-then-not-has_work-clause-looks
returns-then-not-has_work-clause-looks g c = λ n gave. (
  n,
  record { gave = gave; few = inr (c.has_work.ensures.quiet c.if-not-has_work.true) },
  λ had. had,
)

pub returns-then-unseen-lt-ENOUGH_TRIES-clause-looks : goal.returns-then-unseen-lt-ENOUGH_TRIES-clause-looks
returns-then-unseen-lt-ENOUGH_TRIES-clause-looks g c = λ n gave. (n, record { gave = gave; few = inl c.if-unseen-lt-ENOUGH_TRIES.true }, λ had. had)

pub returns-clause-looks : goal.returns-clause-looks
returns-clause-looks g c = λ n gave. (0, all_ok c.glance.result _ (λ end. none_fits _), λ had. c.glance.ensures.looks n had)

pub returns-clause-quiet : goal.returns-clause-quiet
returns-clause-quiet g c = λ quiet. absurd (c.has_work.ensures.work c.if-not-has_work.false quiet)
