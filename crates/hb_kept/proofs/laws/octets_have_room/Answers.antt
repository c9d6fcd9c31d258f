use Rattle.hb_kept.proofs.Kept.{new_is_kept, taken_fares, wanted_fares, some_are_wanted}
use Rattle.hb_kept.proofs.laws.octets_have_room.Goals as goal

pub returns : goal.returns
returns c = record { new = new_is_kept; taken = taken_fares; wanted = wanted_fares; some = some_are_wanted }
