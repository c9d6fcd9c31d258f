use Rattle.hb_options.proofs.Refused.{mixed_are_accepted, nothing_is_accepted}
use Rattle.hb_options.proofs.laws.good_words_are_accepted.Goals as goal

pub returns-clause-mixed : goal.returns-clause-mixed
returns-clause-mixed c = mixed_are_accepted

pub returns-clause-nothing : goal.returns-clause-nothing
returns-clause-nothing c = nothing_is_accepted
