use Rattle.hb_streams.proofs.Room.{stays_in_room}
use Rattle.hb_streams.proofs.laws.room_is_kept.Goals as goal

pub returns : goal.returns
returns c = stays_in_room
