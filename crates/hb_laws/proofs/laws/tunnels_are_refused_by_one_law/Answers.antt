use Rattle.hb_laws.proofs.ByOneLaw.{dials_up_twice, goes_unheld, goes_uncome, changes_up, invents_down, changes_down}
use Rattle.hb_laws.proofs.laws.tunnels_are_refused_by_one_law.Goals as goal

pub returns : goal.returns
returns c = record {
  twice = dials_up_twice;
  unheld = goes_unheld;
  uncome = goes_uncome;
  changes_up = changes_up;
  invents = invents_down;
  changes = changes_down;
}
