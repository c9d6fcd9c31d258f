use Rattle.hb_inbound.proofs.RingsRun.{runs_fit_rings, comes_beyond, window_may_come}
use Rattle.hb_inbound.proofs.laws.rings_are_never_overrun.Goals as goal

pub returns : goal.returns
returns c = record { runs = runs_fit_rings; beyond = comes_beyond; window = window_may_come }
