use Rattle.hb_owed.proofs.Records.{keeps_records}
use Rattle.hb_owed.proofs.laws.pay_keeps_records.Goals as goal

pub returns : goal.returns
returns c = keeps_records
