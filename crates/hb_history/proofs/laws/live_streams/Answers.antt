use Rattle.hb_history.proofs.Lives.{live_streams, streams_move}
use Rattle.hb_history.proofs.laws.live_streams.Goals as goal

pub returns : goal.returns
returns c = record { live = live_streams; streams = streams_move }
