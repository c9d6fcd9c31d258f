use Rattle.std.proofs.Common.{length}
use Rattle.hb_words.proofs.why.+walk.Given as goal

abbrev pub decreases-walk : goal.decreases-walk
decreases-walk l = length l.words.now
