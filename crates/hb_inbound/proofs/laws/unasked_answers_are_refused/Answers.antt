use Rattle.hb_inbound.proofs.VerdictsRefused.{decides_unasked, accepts_unasked, refuses_unasked, resets_unasked, looks_first, accepts_early, request_may_come}
use Rattle.hb_inbound.proofs.laws.unasked_answers_are_refused.Goals as goal

pub returns : goal.returns
returns c = record {
  decides = decides_unasked;
  accepts = accepts_unasked;
  refuses = refuses_unasked;
  resets = resets_unasked;
  looks = looks_first;
  early = accepts_early;
  comes = request_may_come;
}
