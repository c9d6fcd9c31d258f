use Rattle.hb_history.proofs.CreditExamples.{none_is_too_few, on_another_is_too_few, more_is_too_much, all_is_enough, less_may_wait}
use Rattle.hb_history.proofs.laws.credits_are_refused.Goals as goal

pub returns : goal.returns
returns c = record {
  few = none_is_too_few;
  elsewhere = on_another_is_too_few;
  much = more_is_too_much;
  all = all_is_enough;
  less = less_may_wait;
}
