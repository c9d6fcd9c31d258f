use Rattle.hb_link.proofs.NotRoused.{forgets_roused, wakes_none, skips_roused, may_rouse_all}
use Rattle.hb_link.proofs.laws.roused_upstreams_are_told.Goals as goal

pub returns : goal.returns
returns c = record { forgets = forgets_roused; wakes = wakes_none; skips = skips_roused; all = may_rouse_all }
