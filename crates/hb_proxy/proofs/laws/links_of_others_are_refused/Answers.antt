use Rattle.hb_proxy.proofs.Refusing.{comes_unborn, reads_unborn, reads_anothers, born_twice, born_again, answers_another, answers_control, dials_twice}
use Rattle.hb_proxy.proofs.laws.links_of_others_are_refused.Goals as goal

pub returns : goal.returns
returns c = record {
  comes = comes_unborn;
  unborn = reads_unborn;
  anothers = reads_anothers;
  twice = born_twice;
  again = born_again;
  another = answers_another;
  control = answers_control;
  dialled = dials_twice;
}
