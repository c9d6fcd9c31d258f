use Rattle.hb_words.proofs.Spellings.{others_ask_for_none}
use Rattle.hb_words.proofs.laws.other_words_ask_for_no_page.Goals as goal

pub returns : goal.returns
returns c = others_ask_for_none
