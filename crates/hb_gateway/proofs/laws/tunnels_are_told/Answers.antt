use Rattle.hb_gateway.proofs.Bringing.{bring}
use Rattle.hb_gateway.proofs.SendsRun.{send, count}
use Rattle.hb_gateway.proofs.Telling.{tell, keep_key}
use Rattle.hb_gateway.proofs.laws.tunnels_are_told.Goals as goal

pub returns : goal.returns
returns c = record { tells = tell; brings = bring; sends = send; counts = count; key = keep_key }
