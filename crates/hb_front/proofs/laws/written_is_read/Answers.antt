use Rattle.hb_front.proofs.Written.{written_is_read}
use Rattle.hb_front.proofs.laws.written_is_read.Goals as goal

pub returns : goal.returns
returns c = written_is_read
