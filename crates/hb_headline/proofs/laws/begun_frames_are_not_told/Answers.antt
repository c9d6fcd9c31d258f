use Rattle.hb_headline.proofs.Headline.{began_is_not_one}
use Rattle.hb_headline.proofs.laws.begun_frames_are_not_told.Goals as goal

pub returns : goal.returns
returns c = began_is_not_one
