use Rattle.hb_kept.proofs.DataWaits.{within_more, waits_without, finds_within_set, writes_within}
use Rattle.hb_kept.proofs.laws.found_data_is_of_the_set.Goals as goal

pub returns : goal.returns
returns c = record {
  more = within_more;
  without = waits_without;
  finds = finds_within_set;
  writes = writes_within;
}
