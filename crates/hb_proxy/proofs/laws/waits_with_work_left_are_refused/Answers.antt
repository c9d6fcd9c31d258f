use Rattle.hb_proxy.proofs.SettledRefused.{keeps_down, keeps_up, leaves_unread, keeps_credit, leaves_unshut, leaves_unended, leaves_undialled}
use Rattle.hb_proxy.proofs.SettledRefused.{leaves_unwritten, leaves_link_unread, leaves_unlooked, asks_nothing, accepts_nothing, asks_once}
use Rattle.hb_proxy.proofs.laws.waits_with_work_left_are_refused.Goals as goal

pub returns : goal.returns
returns c = record {
  down = keeps_down;
  up = keeps_up;
  unread = leaves_unread;
  credit = keeps_credit;
  unshut = leaves_unshut;
  unended = leaves_unended;
  undialled = leaves_undialled;
  unwritten = leaves_unwritten;
  link_unread = leaves_link_unread;
  unlooked = leaves_unlooked;
  asks = asks_nothing;
  accepts = accepts_nothing;
  good = asks_once;
}
