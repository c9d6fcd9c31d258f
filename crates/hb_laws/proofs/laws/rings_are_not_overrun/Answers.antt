use Rattle.hb_laws.proofs.RefusedRings.{keeps_more_up, comes_beyond_ring, keeps_more_plain}
use Rattle.hb_laws.proofs.laws.rings_are_not_overrun.Goals as goal

pub returns : goal.returns
returns c = record {
  up = keeps_more_up;
  down = comes_beyond_ring;
  plain = keeps_more_plain;
}
