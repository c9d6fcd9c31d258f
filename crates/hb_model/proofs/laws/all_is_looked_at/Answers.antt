use Rattle.hb_model.proofs.Heard.{hear_all}
use Rattle.hb_model.proofs.Inner.{obey_inner, look_at_all}
use Rattle.hb_model.proofs.laws.all_is_looked_at.Goals as goal

pub returns : goal.returns
returns c = record { inner = obey_inner; looked = look_at_all; heard = hear_all }
