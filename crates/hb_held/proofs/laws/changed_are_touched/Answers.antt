use Rattle.hb_held.proofs.FewLaw.{changed_are_touched, lacking_is_wrong}
use Rattle.hb_held.proofs.laws.changed_are_touched.Goals as goal

pub returns : goal.returns
returns c = record { all = changed_are_touched; lacking = lacking_is_wrong }
