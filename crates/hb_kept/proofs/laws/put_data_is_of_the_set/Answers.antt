use Rattle.hb_kept.proofs.DataWaits.{opens_within, uses_within, answers_within, ends_within, puts_within, resets_within}
use Rattle.hb_kept.proofs.laws.put_data_is_of_the_set.Goals as goal

pub returns : goal.returns
returns c = record {
  opens = opens_within;
  uses = uses_within;
  answers = answers_within;
  ends = ends_within;
  puts = puts_within;
  resets = resets_within;
}
