use Rattle.hb_flow.proofs.Taking.{never_beyond}
use Rattle.hb_flow.proofs.laws.no_data_goes_beyond_a_window.Goals as goal

pub returns : goal.returns
returns c = never_beyond
