use Rattle.std.specs.Prelude.{ℕ, List}
use Rattle.hb_frames.specs.RawFrame.{RawFrame}
use Rattle.hb_frames.specs.declared.head.Head.{Head}

-- the frame of a header and a payload
abbrev pub frame_of : Head → List ℕ → RawFrame
frame_of head payload = record { kind = head.kind; flags = head.flags; stream = head.stream; payload = payload }
