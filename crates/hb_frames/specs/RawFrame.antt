use Rattle.std.specs.Prelude.{◌≡◌, ℕ, ◌+◌, ◌*◌, ◌%◌, ◌<◌, List, ◌∷◌, ◌++◌, length, slice_index, slice_range}
use Rattle.hb_frames.specs.Octets.{three, four, three_at, four_at}

-- a frame by its type, flags, stream and payload (RFC 9113 section 4.1)
pub record RawFrame : Type 0 where
  pub kind : ℕ
  pub flags : ℕ
  pub stream : ℕ
  pub payload : List ℕ

-- each part fits its field: an octet, an octet, 31 bits, and a length of three octets
pub record Fits (f : RawFrame) : Type 0 where
  pub kind : f.kind < 256
  pub flags : f.flags < 256
  pub stream : f.stream < 2147483648
  pub size : length f.payload < 16777216

-- the nine octets in front of a payload: its length, type, flags, and a word of a reserved bit and the stream
abbrev pub header : ℕ → ℕ → ℕ → ℕ → List ℕ
header size kind flags word = three size ++ kind ∷ flags ∷ four word

-- the octets of a frame whose reserved bit is 0, as it is sent
abbrev pub spelling : RawFrame → List ℕ
spelling f = header (length f.payload) f.kind f.flags f.stream ++ f.payload

-- the octets spell the frame; the reserved bit may be 0 or 1 and says nothing
pub record Spells (f : RawFrame) (bytes : List ℕ) : Type 0 where
  pub fits : Fits f
  pub reserved : ℕ
  pub bit : reserved < 2
  pub whole : bytes ≡ header (length f.payload) f.kind f.flags (reserved * 2147483648 + f.stream) ++ f.payload

-- the length field of the frame at the front
abbrev pub size_at : List ℕ → ℕ
size_at bytes = three_at bytes 0

-- the frame at the front of the bytes, where a whole one stands there
abbrev pub raw_at : List ℕ → RawFrame
raw_at bytes = record {
  kind = slice_index bytes 3;
  flags = slice_index bytes 4;
  stream = four_at bytes 5 % 2147483648;
  payload = slice_range bytes 9 (9 + size_at bytes);
}
