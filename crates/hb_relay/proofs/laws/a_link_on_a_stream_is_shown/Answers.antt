use Rattle.hb_relay.proofs.StreamRefused.{stream_is_shown}
use Rattle.hb_relay.proofs.laws.a_link_on_a_stream_is_shown.Goals as goal

pub returns : goal.returns
returns c = stream_is_shown
