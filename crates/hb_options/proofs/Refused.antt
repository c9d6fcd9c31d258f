-- Why words of the examples are refused.
use Rattle.std.proofs.Common.{◌≡◌, false, true≢false, List, codes, refl, sym, ◌∙◌}
use Rattle.std.specs.List.{list_all}
use Rattle.clap.specs.Takes.{takes}
use Rattle.clap.specs.Walk.{Text}
use Rattle.clap.proofs.OnLiterals.{clap_on_literals}
use Rattle.hb_options.specs.Items.{app, Refused, is_clean}
use Rattle.hb_options.specs.Refused.{commands, MixedAreAccepted, NothingIsAccepted, no_words, no_command, node_twice, brief_twice, flag_valued, node_unvalued, node_swallows, no_node, no_target, three_places, unknown_option, others_option, place_named, empty_value, dashed_value, two_dashes, one_dash, empty_word}
use Rattle.hb_options.proofs.Top.{are_spelled_cleanly, takes_spelled_items}

-- clap doesn't take the words
untaken : (words : List Text) → takes (app (codes "program") commands) words ≡ false → Refused commands words
untaken words fails c items spells = true≢false (sym (takes_spelled_items (codes "program") commands words c items refl spells) ∙ fails)

-- a word isn't clean
unclean : (words : List Text) → list_all is_clean words ≡ false → Refused commands words
unclean words fails c items spells = true≢false (sym (are_spelled_cleanly commands words c items refl spells) ∙ fails)

pub mixed_are_accepted : MixedAreAccepted
mixed_are_accepted = (refl, refl)

pub nothing_is_accepted : NothingIsAccepted
nothing_is_accepted = refl

pub no_words_refused : Refused commands no_words
unfolding clap_on_literals
no_words_refused = untaken no_words refl

pub no_command_refused : Refused commands no_command
unfolding clap_on_literals
no_command_refused = untaken no_command refl

pub node_twice_refused : Refused commands node_twice
unfolding clap_on_literals
node_twice_refused = untaken node_twice refl

pub brief_twice_refused : Refused commands brief_twice
unfolding clap_on_literals
brief_twice_refused = untaken brief_twice refl

pub flag_valued_refused : Refused commands flag_valued
unfolding clap_on_literals
flag_valued_refused = untaken flag_valued refl

pub node_unvalued_refused : Refused commands node_unvalued
unfolding clap_on_literals
node_unvalued_refused = untaken node_unvalued refl

pub node_swallows_refused : Refused commands node_swallows
unfolding clap_on_literals
node_swallows_refused = untaken node_swallows refl

pub no_node_refused : Refused commands no_node
unfolding clap_on_literals
no_node_refused = untaken no_node refl

pub no_target_refused : Refused commands no_target
unfolding clap_on_literals
no_target_refused = untaken no_target refl

pub three_places_refused : Refused commands three_places
unfolding clap_on_literals
three_places_refused = untaken three_places refl

pub unknown_option_refused : Refused commands unknown_option
unfolding clap_on_literals
unknown_option_refused = untaken unknown_option refl

pub others_option_refused : Refused commands others_option
unfolding clap_on_literals
others_option_refused = untaken others_option refl

pub place_named_refused : Refused commands place_named
unfolding clap_on_literals
place_named_refused = untaken place_named refl

pub empty_value_refused : Refused commands empty_value
empty_value_refused = unclean _ refl

pub dashed_value_refused : Refused commands dashed_value
dashed_value_refused = unclean _ refl

pub two_dashes_refused : Refused commands two_dashes
two_dashes_refused = unclean _ refl

pub one_dash_refused : Refused commands one_dash
one_dash_refused = unclean _ refl

pub empty_word_refused : Refused commands empty_word
empty_word_refused = unclean _ refl
