use Rattle.hb_index.proofs.Rising.{entries_rise}
use Rattle.hb_held.proofs.laws.names_stand_once.Goals as goal

pub returns : goal.returns
returns c = λ h. (entries_rise h.addresses, entries_rise h.policies)
