use Rattle.hb_proxy.proofs.Seen.{runs_are_seen}
use Rattle.hb_proxy.proofs.laws.links_are_seen.Goals as goal

pub returns : goal.returns
returns c = runs_are_seen
