use Rattle.hb_links.proofs.NotShown.{leaves_both, leaves_one}
use Rattle.hb_links.proofs.laws.plain_links_leave_places.Goals as goal

pub returns : goal.returns
returns c = record { both = leaves_both; one = leaves_one }
