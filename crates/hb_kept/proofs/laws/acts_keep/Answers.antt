use Rattle.hb_kept.proofs.Acts.{opens_kept, writes_kept, puts_kept, uses_kept, answers_kept, ends_kept, resets_kept}
use Rattle.hb_kept.proofs.laws.acts_keep.Goals as goal

pub returns : goal.returns
returns c = record {
  opens = opens_kept;
  writes = writes_kept;
  puts = puts_kept;
  uses = uses_kept;
  answers = answers_kept;
  ends = ends_kept;
  resets = resets_kept;
}
