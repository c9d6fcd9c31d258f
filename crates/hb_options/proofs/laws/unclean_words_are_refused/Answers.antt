use Rattle.hb_options.proofs.Refused.{empty_value_refused, dashed_value_refused, two_dashes_refused, one_dash_refused, empty_word_refused}
use Rattle.hb_options.proofs.laws.unclean_words_are_refused.Goals as goal

pub returns-clause-empty_value : goal.returns-clause-empty_value
returns-clause-empty_value c = empty_value_refused

pub returns-clause-dashed_value : goal.returns-clause-dashed_value
returns-clause-dashed_value c = dashed_value_refused

pub returns-clause-two_dashes : goal.returns-clause-two_dashes
returns-clause-two_dashes c = two_dashes_refused

pub returns-clause-one_dash : goal.returns-clause-one_dash
returns-clause-one_dash c = one_dash_refused

pub returns-clause-empty_word : goal.returns-clause-empty_word
returns-clause-empty_word c = empty_word_refused
