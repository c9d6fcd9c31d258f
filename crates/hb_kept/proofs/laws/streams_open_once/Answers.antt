use Rattle.hb_kept.proofs.Opened.{told_are_numbered}
use Rattle.hb_kept.proofs.Rises.{points_raise, writes_leave, used_opens_not, higher_may_open}
use Rattle.hb_kept.proofs.laws.streams_open_once.Goals as goal

pub returns : goal.returns
returns c = record {
  raise = points_raise;
  writes = writes_leave;
  told = told_are_numbered;
  used = used_opens_not;
  higher = higher_may_open;
}
