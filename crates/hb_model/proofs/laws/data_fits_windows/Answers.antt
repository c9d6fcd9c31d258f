use Rattle.hb_model.proofs.WindowsFit.{obey_windows}
use Rattle.hb_model.proofs.laws.data_fits_windows.Goals as goal

pub returns : goal.returns
returns c = obey_windows
