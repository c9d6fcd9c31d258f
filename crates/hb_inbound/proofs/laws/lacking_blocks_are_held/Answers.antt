use Rattle.hb_inbound.proofs.Lacking.{lacks_held, none_is_refused, data_is_refused, headers_may_lack}
use Rattle.hb_inbound.proofs.laws.lacking_blocks_are_held.Goals as goal

pub returns : goal.returns
returns c = record { held = lacks_held; none = none_is_refused; payload = data_is_refused; headers = headers_may_lack }
