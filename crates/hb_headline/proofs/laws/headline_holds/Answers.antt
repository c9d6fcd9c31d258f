use Rattle.hb_headline.proofs.Headline.{keeps_the_headline}
use Rattle.hb_headline.proofs.laws.headline_holds.Goals as goal

pub returns : goal.returns
returns c = keeps_the_headline
