use Rattle.hb_tunnel.specs.Way.{empty_way}
use Rattle.hb_tunnel.proofs.Ways.{nothing_is_lost}
use Rattle.hb_tunnel.proofs.laws.nothing_is_lost.Goals as goal

pub returns : goal.returns
returns c = λ moves. nothing_is_lost empty_way moves
