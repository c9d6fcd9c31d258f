use Rattle.std.specs.Prelude.{ℕ, ◌-◌, List, [], ◌∷◌, ◌++◌, length, Option, None}
use Rattle.std.specs.List.{flat_map}
use Rattle.hb_frames.specs.RawFrame.{RawFrame, spelling}
use Rattle.hb_outgoing.specs.declared.head.Head.{Head}

-- what waits to be written: the octets left of what was begun, that frame's head (None: they are an opening, or
-- there are none), and the frames of which no octet was written, in order
pub record Waiting : Type 0 where
  pub rest : List ℕ
  pub begun : Option Head
  pub queue : List RawFrame

-- the octets of frames, one after the other (RFC 9113 section 4.1)
abbrev pub spelled : List RawFrame → List ℕ
spelled frames = flat_map spelling frames

-- all octets that wait, in order
abbrev pub octets_of : Waiting → List ℕ
octets_of w = w.rest ++ spelled w.queue

-- how many octets can wait
abbrev pub size : ℕ
size = 65536

-- how many more can wait
abbrev pub room_of : Waiting → ℕ
room_of w = size - length (octets_of w)

-- nothing waits
abbrev pub nothing : Waiting
nothing = record { rest = []; begun = None; queue = [] }

-- after an opening was put: its octets wait, and no frame is begun
abbrev pub opened : List ℕ → Waiting
opened bytes = record { rest = bytes; begun = None; queue = [] }

-- after a frame was put: it is the last
abbrev pub put : RawFrame → Waiting → Waiting
put f w = record w { queue = w.queue ++ f ∷ [] }

-- what a frame's header says besides the length
abbrev pub head_of : RawFrame → Head
head_of f = record { kind = f.kind; flags = f.flags; stream = f.stream }
