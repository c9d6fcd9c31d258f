use Rattle.hb_options.proofs.Refused.{no_words_refused, no_command_refused, node_twice_refused, brief_twice_refused, flag_valued_refused, node_unvalued_refused, node_swallows_refused}
use Rattle.hb_options.proofs.laws.uses_are_refused.Goals as goal

pub returns-clause-no_words : goal.returns-clause-no_words
returns-clause-no_words c = no_words_refused

pub returns-clause-no_command : goal.returns-clause-no_command
returns-clause-no_command c = no_command_refused

pub returns-clause-node_twice : goal.returns-clause-node_twice
returns-clause-node_twice c = node_twice_refused

pub returns-clause-brief_twice : goal.returns-clause-brief_twice
returns-clause-brief_twice c = brief_twice_refused

pub returns-clause-flag_valued : goal.returns-clause-flag_valued
returns-clause-flag_valued c = flag_valued_refused

pub returns-clause-node_unvalued : goal.returns-clause-node_unvalued
returns-clause-node_unvalued c = node_unvalued_refused

pub returns-clause-node_swallows : goal.returns-clause-node_swallows
returns-clause-node_swallows c = node_swallows_refused
