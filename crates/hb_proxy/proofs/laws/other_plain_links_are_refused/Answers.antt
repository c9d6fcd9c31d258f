use Rattle.hb_proxy.proofs.SeenRefused.{relay_unborn, plain_shut_untold, relay_shut_untold, relay_open_unheard}
use Rattle.hb_proxy.proofs.SeenRefused.{keeps_plain_closed, keeps_relay_closed, shares_relay, is_both}
use Rattle.hb_proxy.proofs.laws.other_plain_links_are_refused.Goals as goal

pub returns : goal.returns
returns c = record {
  unborn = relay_unborn;
  shut = plain_shut_untold;
  up_shut = relay_shut_untold;
  opened = relay_open_unheard;
  closed = keeps_plain_closed;
  up_closed = keeps_relay_closed;
  shared = shares_relay;
  both = is_both;
}
