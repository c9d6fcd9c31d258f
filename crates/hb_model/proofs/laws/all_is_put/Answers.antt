use Rattle.hb_model.proofs.AllPut.{put_all}
use Rattle.hb_model.proofs.laws.all_is_put.Goals as goal

pub returns : goal.returns
returns c = put_all
