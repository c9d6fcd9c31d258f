use Rattle.std.specs.Prelude.{◌≡◌, ℕ, ◌≤◌, ◌<◌, ◌^◌, slice_index, List, [], ◌∷◌, ◌++◌, length}
use Rattle.std.specs.Int.{w32, to_be_bytes}

-- the bytes that spell a message: Compressed-Flag 0, Message-Length in four bytes, the most significant first, and Message
-- (gRPC over HTTP/2, "Length-Prefixed-Message")
abbrev pub spelling : List ℕ → List ℕ
spelling m = 0 ∷ to_be_bytes w32 (length m) ++ m

-- the bytes are the old ones and a front of what is written behind them
abbrev pub IsFront : (old written bytes : List ℕ) → Type 0
IsFront old written bytes = (front behind : List ℕ) × (written ≡ front ++ behind) × (bytes ≡ old ++ front)

-- the spellings of the messages, each of at most so many bytes, joined and followed by the rest, make the bytes
abbrev pub Joins : ℕ → List (List ℕ) → List ℕ → List ℕ → Type 0
Joins limit [] rest bytes = bytes ≡ rest
Joins limit (m ∷ ms) rest bytes =
    (length m ≤ limit) × (more : List ℕ) × (bytes ≡ spelling m ++ more) × Joins limit ms rest more

-- no whole message of at most so many bytes stands in front
abbrev pub HasNoMessage : ℕ → List ℕ → Type 0
HasNoMessage limit bytes = (m more : List ℕ) → length m ≤ limit → bytes ≡ spelling m ++ more → ⊥

-- these are the messages of the bytes, up to the first that is longer or isn't whole, and this is the rest
pub record AreMessages (limit : ℕ) (bytes : List ℕ) (messages : List (List ℕ)) (rest : List ℕ) : Type 0 where
  pub joined : Joins limit messages rest bytes
  pub partial : HasNoMessage limit rest

-- each number is a byte
abbrev pub AreOctets : List ℕ → Type 0
AreOctets bytes = (i : ℕ) → slice_index bytes i < 256

-- bytes have one list of messages and one rest, if any
abbrev pub OneReading : Type 0
OneReading = (limit : ℕ) (bytes rest others_rest : List ℕ) (messages others : List (List ℕ)) → limit < 2 ^ 32
    → AreMessages limit bytes messages rest → AreMessages limit bytes others others_rest
    → (messages ≡ others) × (rest ≡ others_rest)
