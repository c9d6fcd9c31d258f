use Rattle.hb_proxy.proofs.Own.{runs_own, runs_number, runs_dial_once}
use Rattle.hb_proxy.proofs.Sides.{runs_share}
use Rattle.hb_proxy.proofs.laws.links_have_owners.Goals as goal

pub returns : goal.returns
returns c = record { own = runs_own; numbers = runs_number; upstreams = runs_dial_once; sides = runs_share }
