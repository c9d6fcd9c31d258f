use Rattle.std.specs.Prelude.{ℕ, zero, suc, ◌-◌, List, [], ◌∷◌, ◌++◌, length, drop, Option, Some, None}
use Rattle.hb_frames.specs.RawFrame.{RawFrame, spelling}
use Rattle.hb_outgoing.specs.declared.head.Head.{Head}
use Rattle.hb_outgoing.specs.Waiting.{Waiting, spelled, head_of}

-- the frames of a queue that have begun once n of its octets are written: each whose first octet is among them
abbrev pub begun_in : ℕ → List RawFrame → List RawFrame
begun_in zero queue = []
begun_in (suc n) [] = []
begun_in (suc n) (f ∷ queue) = f ∷ begun_in (suc n - length (spelling f)) queue

-- the frames that begin with a write of n octets
abbrev pub begun_by : ℕ → Waiting → List RawFrame
begun_by n w = begun_in (n - length w.rest) w.queue

-- the head of the last of the frames, or else what was begun before
abbrev pub last_head : Option Head → List RawFrame → Option Head
last_head begun [] = begun
last_head begun (f ∷ fs) = last_head (Some (head_of f)) fs

-- a frame is begun only while octets of it wait
abbrev pub while_waits : List ℕ → Option Head → Option Head
while_waits [] begun = None
while_waits (octet ∷ rest) begun = begun

-- what is left of the octets of what was begun before, and of the frames that a write of n octets begins
abbrev pub rest_after : ℕ → Waiting → List ℕ
rest_after n w = drop n (w.rest ++ spelled (begun_by n w))

-- after the first n octets were written
abbrev pub written : ℕ → Waiting → Waiting
written n w = record {
  rest = rest_after n w;
  begun = while_waits (rest_after n w) (last_head w.begun (begun_by n w));
  queue = drop (length (begun_by n w)) w.queue;
}
