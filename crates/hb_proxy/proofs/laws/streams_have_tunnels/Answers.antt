use Rattle.hb_proxy.proofs.Brought.{runs_fit}
use Rattle.hb_proxy.proofs.Streams.{runs_agree}
use Rattle.hb_proxy.proofs.laws.streams_have_tunnels.Goals as goal

pub returns : goal.returns
returns c = record { agree = runs_agree; fit = runs_fit }
