use Rattle.hb_laws.proofs.RefusedRoutes.{dials_gate_astray, tries_gate_astray, dials_for_other_key, dials_for_no_key}
use Rattle.hb_laws.proofs.laws.gateways_dialled_astray_are_refused.Goals as goal

pub returns : goal.returns
returns c = record { astray = dials_gate_astray; tried = tries_gate_astray; key = dials_for_other_key; straight = dials_for_no_key }
