use Rattle.hb_words.proofs.Spellings.{reads_spelled_items, reads_pages, accepts_these}
use Rattle.hb_words.proofs.laws.words_are_read_as_they_are_spelled.Goals as goal

pub returns-clause-spelled : goal.returns-clause-spelled
returns-clause-spelled c = reads_spelled_items

pub returns-clause-pages : goal.returns-clause-pages
returns-clause-pages c = reads_pages

pub returns-clause-alone : goal.returns-clause-alone
returns-clause-alone c = accepts_these
