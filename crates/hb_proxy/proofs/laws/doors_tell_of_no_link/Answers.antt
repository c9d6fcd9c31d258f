use Rattle.hb_proxy.proofs.Doors.{doors_tell_none}
use Rattle.hb_proxy.proofs.laws.doors_tell_of_no_link.Goals as goal

pub returns : goal.returns
returns c = doors_tell_none
