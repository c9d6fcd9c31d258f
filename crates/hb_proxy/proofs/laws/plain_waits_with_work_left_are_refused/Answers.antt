use Rattle.hb_proxy.proofs.PlainWaits.{keeps_up, keeps_down, leaves_up_unread, leaves_unread, leaves_front_unread, leaves_unshut}
use Rattle.hb_proxy.proofs.PlainWaits.{leaves_undialled, leaves_unclosed, reads_nothing, asks_no_upstream, reads_once}
use Rattle.hb_proxy.proofs.laws.plain_waits_with_work_left_are_refused.Goals as goal

pub returns : goal.returns
returns c = record {
  up = keeps_up;
  down = keeps_down;
  up_unread = leaves_up_unread;
  unread = leaves_unread;
  front = leaves_front_unread;
  unshut = leaves_unshut;
  undialled = leaves_undialled;
  unclosed = leaves_unclosed;
  reads = reads_nothing;
  asks = asks_no_upstream;
  good = reads_once;
}
