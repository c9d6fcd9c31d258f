use Rattle.hb_captured.proofs.Obeyed.{settle}
use Rattle.hb_captured.proofs.laws.nothing_is_put_off.Goals as goal

pub returns : goal.returns
returns c = settle
