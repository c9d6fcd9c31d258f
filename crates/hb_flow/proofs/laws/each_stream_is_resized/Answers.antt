use Rattle.hb_flow.proofs.Sizes.{resizes_each}
use Rattle.hb_flow.proofs.laws.each_stream_is_resized.Goals as goal

pub returns : goal.returns
returns c = resizes_each
