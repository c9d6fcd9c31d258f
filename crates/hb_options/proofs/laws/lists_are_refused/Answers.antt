use Rattle.hb_options.proofs.Refused.{no_node_refused, no_target_refused, three_places_refused, unknown_option_refused, others_option_refused, place_named_refused}
use Rattle.hb_options.proofs.laws.lists_are_refused.Goals as goal

pub returns-clause-no_node : goal.returns-clause-no_node
returns-clause-no_node c = no_node_refused

pub returns-clause-no_target : goal.returns-clause-no_target
returns-clause-no_target c = no_target_refused

pub returns-clause-three_places : goal.returns-clause-three_places
returns-clause-three_places c = three_places_refused

pub returns-clause-unknown_option : goal.returns-clause-unknown_option
returns-clause-unknown_option c = unknown_option_refused

pub returns-clause-others_option : goal.returns-clause-others_option
returns-clause-others_option c = others_option_refused

pub returns-clause-place_named : goal.returns-clause-place_named
returns-clause-place_named c = place_named_refused
