use Rattle.hb_proxy.proofs.Gates.{obey_gates, runs_take}
use Rattle.hb_proxy.proofs.laws.links_to_gateways_obey.Goals as goal

pub returns : goal.returns
returns c = record { obey = obey_gates; take = runs_take }
