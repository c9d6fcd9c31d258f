use Rattle.hb_inbound.proofs.Updating.{keeps_admitted, keeps_placeless, ends_others}
use Rattle.hb_inbound.proofs.laws.updates_end_exactly.Goals as goal

pub returns : goal.returns
returns c = record { admitted = keeps_admitted; placeless = keeps_placeless; others = ends_others }
