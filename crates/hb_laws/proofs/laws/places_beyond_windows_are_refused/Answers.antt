use Rattle.hb_laws.proofs.RefusedWindows.{link_goes_beyond, plane_goes_beyond, gate_goes_beyond}
use Rattle.hb_laws.proofs.laws.places_beyond_windows_are_refused.Goals as goal

pub returns : goal.returns
returns c = record {
  link = link_goes_beyond;
  control = plane_goes_beyond;
  gate = gate_goes_beyond;
}
