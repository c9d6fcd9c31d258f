use Rattle.hb_gate.proofs.Refused.{resets_nothing, tells_unheard, leaves_untold}
use Rattle.hb_gate.proofs.laws.ends_are_followed.Goals as goal

pub returns : goal.returns
returns c = record { resets = resets_nothing; twice = tells_unheard; untold = leaves_untold }
