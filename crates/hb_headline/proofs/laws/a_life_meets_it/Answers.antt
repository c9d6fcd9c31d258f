use Rattle.hb_headline.proofs.Good.{life_meets}
use Rattle.hb_headline.proofs.laws.a_life_meets_it.Goals as goal

pub returns : goal.returns
returns c = life_meets
