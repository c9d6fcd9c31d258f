use Rattle.hb_options.proofs.Top.{are_simple, takes_spelled_items, are_spelled_cleanly, takes_spelled_items_alone, spells_taken_words, gives_items_values}
use Rattle.hb_options.proofs.laws.words_are_taken_as_items_spell_them.Goals as goal

pub returns-clause-simple : goal.returns-clause-simple
returns-clause-simple c = are_simple

pub returns-clause-taken : goal.returns-clause-taken
returns-clause-taken c = takes_spelled_items

pub returns-clause-clean : goal.returns-clause-clean
returns-clause-clean c = are_spelled_cleanly

pub returns-clause-alone : goal.returns-clause-alone
returns-clause-alone c = takes_spelled_items_alone

pub returns-clause-spelled : goal.returns-clause-spelled
returns-clause-spelled c = spells_taken_words

pub returns-clause-values : goal.returns-clause-values
returns-clause-values c = gives_items_values
