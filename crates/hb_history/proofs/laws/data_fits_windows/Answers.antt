use Rattle.hb_history.proofs.Fitting.{data_fits, data_fits_everywhere}
use Rattle.hb_history.proofs.laws.data_fits_windows.Goals as goal

pub returns : goal.returns
returns c = record { next = data_fits; everywhere = data_fits_everywhere }
