use Rattle.std.specs.Prelude.{◌≡◌, ◌≤◌, ℕ, zero, suc, ◌+◌, List, [], ◌∷◌, ◌++◌, length, take, drop, nat_lt, if◌then◌else◌}
use Rattle.hb_frames.specs.RawFrame.{RawFrame, Fits, spelling, raw_at, size_at}
use Rattle.hb_outgoing.specs.Waiting.{spelled}

-- the frames that stand one after the other from the first octet on, as many as `most`
abbrev pub frames_in : ℕ → List ℕ → List RawFrame
frames_in zero bytes = []
frames_in (suc most) bytes =
    if nat_lt (length bytes) 9 then [] else raw_at bytes ∷ frames_in most (drop (9 + size_at bytes) bytes)

-- all of them
unfoldable pub frames_of : List ℕ → List RawFrame
frames_of bytes = frames_in (length bytes) bytes

-- each frame's parts fit their fields
abbrev pub AllFit : List RawFrame → Type 0
AllFit [] = Unit {0}
AllFit (f ∷ fs) = Fits f × AllFit fs

-- the octets are those of whole frames, one after the other
pub record AreWhole (bytes : List ℕ) : Type 0 where
  pub fit : AllFit (frames_of bytes)
  pub joined : spelled (frames_of bytes) ≡ bytes

-- the first frame of those from one place on stands between this place and another
pub record Stands (bytes : List ℕ) (f : RawFrame) (from to : ℕ) : Type 0 where
  pub first : frames_of (drop from bytes) ≡ f ∷ frames_of (drop to bytes)
  pub end_is : to ≡ from + length (spelling f)
  pub octets : take to bytes ≡ take from bytes ++ spelling f

-- the first frame of those from one place on, whose payload has this size
pub record IsPlaced (bytes : List ℕ) (at size : ℕ) : Type 0 where
  pub size_is : size ≡ length (raw_at (drop at bytes)).payload
  pub stands : Stands bytes (raw_at (drop at bytes)) at (at + (9 + size))
  pub within : at + (9 + size) ≤ length bytes
  pub later : AreWhole (drop (at + (9 + size)) bytes)
