use Rattle.hb_headline.proofs.Beyond.{begins_large, begins_beyond, begins_ungranted, gate_begins_beyond, gate_begins_ungranted, gate_unfronted}
use Rattle.hb_headline.proofs.Overrun.{keeps_more_up, keeps_more_down, tunnel_keeps_more}
use Rattle.hb_headline.proofs.Refused.{sends_unfronted, tunnels_unfronted, invents_back, sends_early, invents_data, sends_unasked, dials_twice, dials_elsewhere, admits_elsewhere, admits_untold, dials_untold, dials_plain_untold, admits_forged, sends_unborn, cuts_unadmitted, keeps_unadmitted, relays_untold, keeps_plain}
use Rattle.hb_headline.proofs.Revoking.{keeps_revoked}
use Rattle.hb_headline.proofs.laws.small_traces_are_refused.Goals as goal

pub returns : goal.returns
returns c = record {
  unfronted = sends_unfronted;
  tunnel = tunnels_unfronted;
  invents = invents_back;
  early = sends_early;
  invents_data = invents_data;
  unasked = sends_unasked;
  twice = dials_twice;
  again = dials_elsewhere;
  elsewhere = admits_elsewhere;
  untold = admits_untold;
  tried = dials_untold;
  tried_plain = dials_plain_untold;
  forged = admits_forged;
  unborn = sends_unborn;
  cut = cuts_unadmitted;
  kept = keeps_unadmitted;
  relayed = relays_untold;
  plain = keeps_plain;
  revoked = keeps_revoked;
  large = begins_large;
  beyond = begins_beyond;
  ungranted = begins_ungranted;
  gate_beyond = gate_begins_beyond;
  gate_ungranted = gate_begins_ungranted;
  gate_unfronted = gate_unfronted;
  waiting_up = keeps_more_up;
  waiting_down = keeps_more_down;
  waiting_tunnel = tunnel_keeps_more;
}
