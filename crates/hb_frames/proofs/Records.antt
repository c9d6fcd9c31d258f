-- Records by their parts.
use Rattle.std.proofs.Common.{ℕ, List}
use Rattle.hb_buffer.specs.BoundedBytes.{BoundedBytes}
use Rattle.hb_frames.specs.RawFrame.{RawFrame}
use Rattle.hb_frames.specs.Reading.{Reading}

abbrev pub bounded : List ℕ → ℕ → BoundedBytes
bounded items size = record { items = items; size = size }

abbrev pub raw : ℕ → ℕ → ℕ → List ℕ → RawFrame
raw kind flags stream payload = record { kind = kind; flags = flags; stream = stream; payload = payload }

abbrev pub reading : ℕ → List ℕ → ℕ → List ℕ → Reading
reading max held at last = record { max = max; held = held; at = at; last = last }
