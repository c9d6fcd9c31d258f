use Rattle.hb_captured.proofs.Obeyed.{end}
use Rattle.hb_captured.proofs.laws.relays_end_once.Goals as goal

pub returns : goal.returns
returns c = end
