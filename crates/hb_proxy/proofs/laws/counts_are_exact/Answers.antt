use Rattle.hb_proxy.proofs.Limits.{counts_endless, counts_twice, counts_none, has_more_links, has_more_tunnels}
use Rattle.hb_proxy.proofs.laws.counts_are_exact.Goals as goal

pub returns : goal.returns
returns c = record {
  endless = counts_endless;
  twice = counts_twice;
  none = counts_none;
  links = has_more_links;
  tunnels = has_more_tunnels;
}
