use Rattle.hb_proxy.proofs.Plain.{obey_plain}
use Rattle.hb_proxy.proofs.laws.plain_links_obey.Goals as goal

pub returns : goal.returns
returns c = obey_plain
