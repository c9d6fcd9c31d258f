use Rattle.hb_kept.proofs.Payloads.{looks_follow, writes_follow, uses_follow, answers_follow, ends_follow, resets_follow, others_follow, puts_follow, more_follows, invented_is_refused, lost_is_refused, both_may_wait}
use Rattle.hb_kept.proofs.laws.payloads_follow.Goals as goal

pub returns : goal.returns
returns c = record {
  looks = looks_follow;
  writes = writes_follow;
  uses = uses_follow;
  answers = answers_follow;
  ends = ends_follow;
  resets = resets_follow;
  others = others_follow;
  puts = puts_follow;
  more = more_follows;
  invented = invented_is_refused;
  lost = lost_is_refused;
  both = both_may_wait;
}
