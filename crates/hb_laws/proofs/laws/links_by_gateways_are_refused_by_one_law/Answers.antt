use Rattle.hb_laws.proofs.GatewayByOneLaw.{goes_unbrought, changes_brought}
use Rattle.hb_laws.proofs.laws.links_by_gateways_are_refused_by_one_law.Goals as goal

pub returns : goal.returns
returns c = record { unbrought = goes_unbrought; changes = changes_brought }
