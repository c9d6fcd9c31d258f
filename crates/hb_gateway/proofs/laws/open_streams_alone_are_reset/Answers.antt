use Rattle.hb_gateway.proofs.Resetting.{reset_open, one_fails}
use Rattle.hb_gateway.proofs.laws.open_streams_alone_are_reset.Goals as goal

pub returns : goal.returns
returns c = record { resets = reset_open; one = one_fails }
