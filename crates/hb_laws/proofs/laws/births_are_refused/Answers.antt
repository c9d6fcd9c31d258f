use Rattle.hb_laws.proofs.RefusedLinks.{comes_unborn, goes_unborn, born_twice, accepts_first, dials_up_untold}
use Rattle.hb_laws.proofs.laws.births_are_refused.Goals as goal

pub returns : goal.returns
returns c = record {
  comes = comes_unborn;
  goes = goes_unborn;
  number = born_twice;
  first = accepts_first;
  untold = dials_up_untold;
}
