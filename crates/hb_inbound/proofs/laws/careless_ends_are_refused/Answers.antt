use Rattle.hb_inbound.proofs.RefusedEnds.{finishes_behind, dials_behind, opens_behind, closes_unended, shuts_pending, loses_byte}
use Rattle.hb_inbound.proofs.laws.careless_ends_are_refused.Goals as goal

pub returns : goal.returns
returns c = record {
  finishes = finishes_behind;
  dials = dials_behind;
  opens = opens_behind;
  closes = closes_unended;
  shuts = shuts_pending;
  loses = loses_byte;
}
