use Rattle.hb_kept.proofs.Used.{waits_on_used}
use Rattle.hb_kept.proofs.Opened.{opened_is_unused, used_is_refused, other_may_open}
use Rattle.hb_kept.proofs.laws.opened_streams_are_unused.Goals as goal

pub returns : goal.returns
returns c = record {
  used = waits_on_used;
  opened = opened_is_unused;
  refused = used_is_refused;
  other = other_may_open;
}
