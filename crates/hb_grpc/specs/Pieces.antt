use Rattle.std.specs.Prelude.{◌≡◌, ℕ, ◌-◌, ◌≤◌, ◌<◌, ◌^◌, List, [], ◌∷◌, ◌++◌, length, take, Option, Some, None, Result, Ok, Err}
use Rattle.hb_grpc.specs.Message.{spelling, AreMessages, AreOctets}
use Rattle.hb_grpc.specs.Reading.{Framing, told_by, fed, answer}
use Rattle.hb_grpc.specs.declared.fault.GrpcFault.{GrpcFault}
use Rattle.hb_grpc.specs.declared.framer.Fed.{Fed}

-- a new Framer
abbrev pub fresh : ℕ → Framing
fresh limit = record { limit = limit; held = [] }

-- what a Framer stands for after the pieces
abbrev pub after_pieces : Framing → List (List ℕ) → Framing
after_pieces f [] = f
after_pieces f (piece ∷ pieces) = after_pieces (fed f piece) pieces

-- the bytes of a piece that an answer takes; those of a fault are the ones that tell it
abbrev pub taken_of : List ℕ → List ℕ → Result Fed GrpcFault → List ℕ
taken_of held piece (Ok given) = take given.taken piece
taken_of held piece (Err fault) = take (told_by fault - length held) piece

-- the bytes that the pieces' answers took, joined
abbrev pub taken_by : Framing → List (List ℕ) → List ℕ
taken_by f [] = []
taken_by f (piece ∷ pieces) = taken_of f.held piece (answer f piece) ++ taken_by (fed f piece) pieces

abbrev pub in_list : Option (List ℕ) → List (List ℕ)
in_list None = []
in_list (Some m) = m ∷ []

-- the message that an answer gives, if any
abbrev pub given_of : Result Fed GrpcFault → List (List ℕ)
given_of (Ok given) = in_list given.message
given_of (Err fault) = []

-- the messages that the pieces' answers gave, in order
abbrev pub given_by : Framing → List (List ℕ) → List (List ℕ)
given_by f [] = []
given_by f (piece ∷ pieces) = given_of (answer f piece) ++ given_by (fed f piece) pieces

-- each piece is of bytes
abbrev pub ArePieces : List (List ℕ) → Type 0
ArePieces [] = Unit {0}
ArePieces (piece ∷ pieces) = AreOctets piece × ArePieces pieces

-- However a stream is cut into pieces, the messages given are those of the bytes taken, and what is held is their rest.
abbrev pub AnyPieces : Type 0
AnyPieces = (limit : ℕ) (pieces : List (List ℕ)) → limit < 2 ^ 32 → ArePieces pieces
    → AreMessages limit (taken_by (fresh limit) pieces) (given_by (fresh limit) pieces) (after_pieces (fresh limit) pieces).held

-- A fault that was told is told again after any pieces, and nothing is given any more.
abbrev pub FaultStays : Type 0
FaultStays = (f : Framing) (piece more : List ℕ) (pieces : List (List ℕ)) (fault : GrpcFault) → answer f piece ≡ Err fault
    → (answer (after_pieces (fed f piece) pieces) more ≡ Err fault) × (given_by (fed f piece) pieces ≡ [])

-- Two Framers of one limit that took the front of the same bytes, each in its own pieces, and that both tell a fault, gave
-- the same messages, and tell the same fault.
abbrev pub OneFault : Type 0
OneFault = (limit : ℕ) (pieces others : List (List ℕ)) (bytes more others_more : List ℕ) (fault other : GrpcFault)
    → limit < 2 ^ 32 → ArePieces pieces → ArePieces others
    → bytes ≡ taken_by (fresh limit) pieces ++ more → bytes ≡ taken_by (fresh limit) others ++ others_more
    → answer (after_pieces (fresh limit) pieces) more ≡ Err fault
    → answer (after_pieces (fresh limit) others) others_more ≡ Err other
    → (given_by (fresh limit) pieces ≡ given_by (fresh limit) others) × (fault ≡ other)

-- What is sent for a message is taken to its end and gives the message, and nothing is held behind it.
abbrev pub SentIsRead : Type 0
SentIsRead = (limit : ℕ) (m more : List ℕ) → limit < 2 ^ 32 → length m ≤ limit
    → (answer (fresh limit) (spelling m ++ more) ≡ Ok (record { taken = length (spelling m); message = Some m }))
    × (fed (fresh limit) (spelling m ++ more) ≡ fresh limit)
