use Rattle.hb_owed.proofs.Orders.{lowest_first, each_stream}
use Rattle.hb_owed.proofs.laws.lowest_first.Goals as goal

pub returns : goal.returns
returns c = record { rising = lowest_first; streams = each_stream }
