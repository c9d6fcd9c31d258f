use Rattle.hb_frames.proofs.Histories.{feed_adds, frame_adds, others_add_nothing}
use Rattle.hb_frames.proofs.laws.each_call_adds.Goals as goal

pub returns : goal.returns
returns c = record { feed = feed_adds; frame = frame_adds; others = others_add_nothing }
