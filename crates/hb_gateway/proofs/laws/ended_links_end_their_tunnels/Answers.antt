use Rattle.hb_gateway.proofs.Ending.{end_tunnels}
use Rattle.hb_gateway.proofs.laws.ended_links_end_their_tunnels.Goals as goal

pub returns : goal.returns
returns c = end_tunnels
