use Rattle.hb_owed.proofs.Records.{closed_go}
use Rattle.hb_owed.proofs.laws.closed_records_go.Goals as goal

pub returns : goal.returns
returns c = closed_go
