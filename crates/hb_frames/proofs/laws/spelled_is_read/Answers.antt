use Rattle.hb_frames.proofs.ReadBack.{sent_is_spelled, spelled_is_read}
use Rattle.hb_frames.proofs.laws.spelled_is_read.Goals as goal

pub returns : goal.returns
returns c = record { sent = sent_is_spelled; read = spelled_is_read }
