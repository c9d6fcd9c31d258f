use Rattle.hb_laws.proofs.RefusedTraces.{never_dials, dials_no_more, dials_twice, dials_another}
use Rattle.hb_laws.proofs.laws.dials_are_refused.Goals as goal

pub returns : goal.returns
returns c = record {
  never = never_dials;
  no_more = dials_no_more;
  twice = dials_twice;
  another = dials_another;
}
