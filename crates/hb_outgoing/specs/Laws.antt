use Rattle.std.specs.Prelude.{◌≡◌, ◌≢◌, ℕ, ◌+◌, ◌≤◌, ◌<◌, List, [], ◌∷◌, ◌++◌, length, take, ◌==◌, None, Some}
use Rattle.std.specs.List.{filter}
use Rattle.hb_frames.specs.RawFrame.{RawFrame}
use Rattle.hb_outgoing.specs.Waiting.{Waiting, spelled, octets_of, put}
use Rattle.hb_outgoing.specs.Written.{begun_by, written}
use Rattle.hb_outgoing.specs.Selected.{is_kept, taken_back}

-- the frames that have begun and those that wait, in order
abbrev pub frames : List RawFrame → Waiting → List RawFrame
frames begun w = begun ++ w.queue

-- After an opening, what was sent and what is left of what was begun spell the frames begun.
abbrev pub Shows : List ℕ → List ℕ → List RawFrame → Waiting → Type 0
Shows opening sent begun w = sent ++ w.rest ≡ opening ++ spelled begun

-- what was sent, followed by all that waits, is the opening, followed by all frames
abbrev pub AllIsSpelled : Type 0
AllIsSpelled = (opening sent : List ℕ) (begun : List RawFrame) (w : Waiting) → Shows opening sent begun w
    → sent ++ octets_of w ≡ opening ++ spelled (frames begun w)

-- a frame that is put is the last of the frames
abbrev pub PutAdds : Type 0
PutAdds = (opening sent : List ℕ) (begun : List RawFrame) (w : Waiting) (f : RawFrame) → Shows opening sent begun w
    → Shows opening sent begun (put f w) × (frames begun (put f w) ≡ frames begun w ++ f ∷ [])

-- a write sends the first octets and begins the frames whose first octet is among them; the frames stay the same
abbrev pub WriteBegins : Type 0
WriteBegins = (opening sent : List ℕ) (begun : List RawFrame) (w : Waiting) (n : ℕ) → n ≤ length (octets_of w)
    → Shows opening sent begun w
    → Shows opening (sent ++ take n (octets_of w)) (begun ++ begun_by n w) (written n w)
    × (frames (begun ++ begun_by n w) (written n w) ≡ frames begun w)

-- a frame of the queue begins with a write exactly where fewer octets stand in front of it than are written
abbrev pub BeginsByPlace : Type 0
BeginsByPlace = (w : Waiting) (n : ℕ) (before behind : List RawFrame) (f : RawFrame) → w.queue ≡ before ++ f ∷ behind
    → (length w.rest + length (spelled before) < n → (more : List RawFrame) × (begun_by n w ≡ before ++ f ∷ more))
    × (n ≤ length w.rest + length (spelled before) → (more : List RawFrame) × (before ≡ begun_by n w ++ more))

-- where a write ends at a frame's end, nothing is begun, and the frames behind it wait
abbrev pub EndsAtAFrame : Type 0
EndsAtAFrame = (w : Waiting) (before behind : List RawFrame) → w.queue ≡ before ++ behind
    → written (length w.rest + length (spelled before)) w ≡ record { rest = []; begun = None; queue = behind }

-- taking back leaves the frames begun, and of the others all but the stream's DATA frames
abbrev pub TakeBackKeeps : Type 0
TakeBackKeeps = (opening sent : List ℕ) (begun : List RawFrame) (w : Waiting) (stream : ℕ) → Shows opening sent begun w
    → Shows opening sent begun (taken_back stream w)
    × (frames begun (taken_back stream w) ≡ begun ++ filter (is_kept (Some stream)) w.queue)

-- the frames of a stream
abbrev pub frames_on : ℕ → List RawFrame → List RawFrame
frames_on stream fs = filter (λ f. f.stream == stream) fs

-- taking back leaves every other stream's frames in order
abbrev pub OthersStay : Type 0
OthersStay = (w : Waiting) (stream other : ℕ) → stream ≢ other
    → frames_on other (taken_back stream w).queue ≡ frames_on other w.queue
