use Rattle.hb_frames.proofs.Runs.{any_pieces, all_frames, offset_counts}
use Rattle.hb_frames.proofs.laws.any_pieces.Goals as goal

pub returns : goal.returns
returns c = record { joined = any_pieces; all = all_frames; offset = offset_counts }
