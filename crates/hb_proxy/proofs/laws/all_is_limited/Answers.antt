use Rattle.hb_proxy.proofs.NeverFull.{never_more_tunnels}
use Rattle.hb_proxy.proofs.NeverMore.{never_more_links}
use Rattle.hb_proxy.proofs.laws.all_is_limited.Goals as goal

pub returns : goal.returns
returns c = record { links = never_more_links; tunnels = never_more_tunnels }
