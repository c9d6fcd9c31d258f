use Rattle.hb_streams.proofs.Follows.{numbers_rise, highest_stays}
use Rattle.hb_streams.proofs.laws.numbers_rise.Goals as goal

pub returns : goal.returns
returns c = record { opened = numbers_rise; kept = highest_stays }
