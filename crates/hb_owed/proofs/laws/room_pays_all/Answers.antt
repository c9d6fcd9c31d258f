use Rattle.hb_owed.proofs.Payments.{plenty_pays_all, room_pays_all}
use Rattle.hb_owed.proofs.laws.room_pays_all.Goals as goal

pub returns : goal.returns
returns c = record { plenty = plenty_pays_all; left = room_pays_all }
