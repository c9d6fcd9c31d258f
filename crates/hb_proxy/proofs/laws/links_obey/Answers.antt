use Rattle.hb_proxy.proofs.Links.{obey_links}
use Rattle.hb_proxy.proofs.laws.links_obey.Goals as goal

pub returns : goal.returns
returns c = obey_links
