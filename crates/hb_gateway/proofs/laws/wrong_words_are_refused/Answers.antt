use Rattle.hb_gateway.proofs.Refused.{interim_is_heard, refusal_opens, brings_early, opens_twice, brings_unopened, goes_on_behind}
use Rattle.hb_gateway.proofs.laws.wrong_words_are_refused.Goals as goal

pub returns : goal.returns
returns c = record {
  interim = interim_is_heard;
  refusal = refusal_opens;
  early = brings_early;
  twice = opens_twice;
  unopened = brings_unopened;
  behind = goes_on_behind;
}
