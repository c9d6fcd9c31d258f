use Rattle.hb_inbound.proofs.Refusing.{dials_unasked, accepts_unopened, writes_unopened, shuts_early, ends_early}
use Rattle.hb_inbound.proofs.laws.early_steps_are_refused.Goals as goal

pub returns : goal.returns
returns c = record {
  dials = dials_unasked;
  accepts = accepts_unopened;
  writes = writes_unopened;
  shuts = shuts_early;
  ends = ends_early;
}
