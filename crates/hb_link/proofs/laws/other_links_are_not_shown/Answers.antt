use Rattle.hb_link.proofs.NotShown.{keeps_none, lives_early, has_another, puts_later, answers_later, gets_later}
use Rattle.hb_link.proofs.laws.other_links_are_not_shown.Goals as goal

pub returns : goal.returns
returns c = record {
  none = keeps_none;
  early = lives_early;
  another = has_another;
  puts = puts_later;
  answers = answers_later;
  gets = gets_later;
}
