use Rattle.hb_captured.proofs.Obeyed.{fit_rings}
use Rattle.hb_captured.proofs.laws.rings_are_never_overrun.Goals as goal

pub returns : goal.returns
returns c = fit_rings
