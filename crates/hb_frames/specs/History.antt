use Rattle.std.specs.Prelude.{◌≡◌, ◌⊎◌, ℕ, min, List, [], ◌∷◌, ◌++◌, length, take, Some, None, Ok, Err}
use Rattle.hb_frames.specs.RawFrame.{RawFrame, raw_at}
use Rattle.hb_frames.specs.Frames.{Joins}
use Rattle.hb_frames.specs.Reading.{Reading, space_of, fed, asked, first_of, IsFirst}
use Rattle.hb_frames.specs.declared.refusal.Refusal.{Refusal}

-- A reader stands for all bytes that it took and all frames that it gave: what it holds is what is left of them.
abbrev pub StandsFor : Reading → List ℕ → List RawFrame → Type 0
StandsFor r taken given = Joins given r.held taken

-- A feed adds the bytes that it took.
abbrev pub FeedAdds : Type 0
FeedAdds = (r : Reading) (taken piece : List ℕ) (given : List RawFrame) → StandsFor r taken given
    → StandsFor (fed r piece) (taken ++ take (min (length piece) (space_of r)) piece) given

-- A next_frame that gives a frame adds it.
abbrev pub FrameAdds : Type 0
FrameAdds = (r : Reading) (n : ℕ) (taken : List ℕ) (given : List RawFrame) → first_of r.max r.held ≡ Ok (Some n)
    → IsFirst r.max r.held n → StandsFor r taken given → StandsFor (asked r) taken (given ++ raw_at r.held ∷ [])

-- Any other next_frame adds nothing.
abbrev pub OthersAddNothing : Type 0
OthersAddNothing = (r : Reading) (taken : List ℕ) (given : List RawFrame)
    → (first_of r.max r.held ≡ Ok None) ⊎ ((refusal : Refusal) × (first_of r.max r.held ≡ Err refusal))
    → StandsFor r taken given → StandsFor (asked r) taken given
