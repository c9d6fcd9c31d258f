use Rattle.hb_captured.proofs.Refused.{dials_elsewhere, dials_twice, dials_unasked, leaves_out_dial, invents_header, dials_refused, refuses_admitted}
use Rattle.hb_captured.proofs.laws.wrong_answers_are_refused.Goals as goal

pub returns : goal.returns
returns c = record {
  elsewhere = dials_elsewhere;
  twice = dials_twice;
  unasked = dials_unasked;
  left_out = leaves_out_dial;
  invents = invents_header;
  dials = dials_refused;
  refuses = refuses_admitted;
}
