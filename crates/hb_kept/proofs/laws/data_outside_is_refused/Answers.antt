use Rattle.hb_kept.proofs.DataWaits.{outside_is_refused, inside_may_wait}
use Rattle.hb_kept.proofs.laws.data_outside_is_refused.Goals as goal

pub returns : goal.returns
returns c = record {
  outside = outside_is_refused;
  inside = inside_may_wait;
}
