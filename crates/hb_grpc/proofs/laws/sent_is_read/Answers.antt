use Rattle.hb_grpc.proofs.Spelled.{sent_is_read}
use Rattle.hb_grpc.proofs.laws.sent_is_read.Goals as goal

pub returns : goal.returns
returns c = sent_is_read
