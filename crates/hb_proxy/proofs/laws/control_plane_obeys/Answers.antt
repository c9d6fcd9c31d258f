use Rattle.hb_proxy.proofs.Control.{obey_entries, obey_control, puts_all}
use Rattle.hb_proxy.proofs.Dials.{runs_dial}
use Rattle.hb_proxy.proofs.laws.control_plane_obeys.Goals as goal

pub returns : goal.returns
returns c = record { dials = runs_dial; entries = obey_entries; own = obey_control; put = puts_all }
