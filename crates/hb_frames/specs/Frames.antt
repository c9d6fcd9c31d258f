use Rattle.std.specs.Prelude.{◌≡◌, ℕ, ◌<◌, List, [], ◌∷◌, ◌++◌, slice_index}
use Rattle.hb_frames.specs.RawFrame.{RawFrame, Spells}

-- the spellings of the frames joined, followed by the rest, make the bytes
abbrev pub Joins : List RawFrame → List ℕ → List ℕ → Type 0
Joins [] rest bytes = bytes ≡ rest
Joins (f ∷ fs) rest bytes =
    (spelled more : List ℕ) × Spells f spelled × (bytes ≡ spelled ++ more) × Joins fs rest more

-- no whole frame stands in front
abbrev pub HasNoFrame : List ℕ → Type 0
HasNoFrame bytes = (f : RawFrame) (spelled more : List ℕ) → Spells f spelled → bytes ≡ spelled ++ more → ⊥

-- these are the frames of the bytes, and this is the rest (RFC 9113 section 4.1)
pub record AreFrames (bytes : List ℕ) (frames : List RawFrame) (rest : List ℕ) : Type 0 where
  pub joined : Joins frames rest bytes
  pub partial : HasNoFrame rest

-- each number is an octet
abbrev pub AreOctets : List ℕ → Type 0
AreOctets bytes = (i : ℕ) → slice_index bytes i < 256

-- the bytes have one list of frames and one rest, if any
abbrev pub OneReading : Type 0
OneReading = (bytes rest others_rest : List ℕ) (frames others : List RawFrame)
    → AreFrames bytes frames rest → AreFrames bytes others others_rest → (frames ≡ others) × (rest ≡ others_rest)
