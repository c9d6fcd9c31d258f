use Rattle.hb_links.proofs.NotShown.{lacks_up, finds_closed, lacks_link, keeps_under_another, keeps_closed, misses_dial}
use Rattle.hb_links.proofs.laws.other_links_are_not_shown.Goals as goal

pub returns : goal.returns
returns c = record {
  lacks = lacks_up;
  finds = finds_closed;
  link = lacks_link;
  number = keeps_under_another;
  closed = keeps_closed;
  act = misses_dial;
}
