use Rattle.std.specs.Prelude.{◌≡◌, ℕ, List, ◌++◌, length, nat_lt, if◌then◌else◌, Err}
use Rattle.hb_frames.specs.RawFrame.{RawFrame, Fits, Spells, spelling, raw_at}
use Rattle.hb_frames.specs.Refusals.{first_refusal}
use Rattle.hb_frames.specs.Reading.{first_of, too_long, unless_refused}

-- a frame that fits its fields is spelled by what is sent for it
abbrev pub SentIsSpelled : Type 0
SentIsSpelled = (f : RawFrame) → Fits f → Spells f (spelling f)

-- What spells a frame is read as this frame, whatever comes behind it: it is refused for its length, or else by
-- the first row that refuses it, or else given whole.
abbrev pub SpelledIsRead : Type 0
SpelledIsRead = (max : ℕ) (f : RawFrame) (spelled more : List ℕ) → Spells f spelled
    → (raw_at (spelled ++ more) ≡ f)
    × (first_of max (spelled ++ more)
    ≡ (if nat_lt max (length f.payload) then Err too_long else unless_refused (first_refusal f) (length spelled)))
