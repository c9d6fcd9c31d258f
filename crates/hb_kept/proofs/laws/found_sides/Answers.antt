use Rattle.hb_kept.proofs.Opened.{opened_is_open}
use Rattle.hb_kept.proofs.Sides.{finds_sides}
use Rattle.hb_kept.proofs.laws.found_sides.Goals as goal

pub returns : goal.returns
returns c = record {
  finds = finds_sides;
  opened = opened_is_open;
}
