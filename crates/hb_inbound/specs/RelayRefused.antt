-- Bytes that are written to an upstream and didn't come on its stream, and bytes that did.
use Rattle.std.specs.Prelude.{◌≡◌, ℕ, false, List, [], ◌∷◌}
use Rattle.hb_conn.specs.declared.found.Found.TheVariants as found
use Rattle.hb_frames.specs.Bodies.{lent_of}
use Rattle.hb_frames.specs.RawFrame.{RawFrame, spelling}
use Rattle.hb_history.specs.Points as history
use Rattle.hb_hpack.specs.declared.header.HeaderList.{HeaderList}
use Rattle.hb_world.specs.declared.entry.Entry.TheVariants as e
use Rattle.hb_inbound.specs.Part.{Part, entry, up, looked}
use Rattle.hb_inbound.specs.Relay.{RelaysUp, RelaysDown, EndsBehind}

-- a byte is written where none came
abbrev pub InventsByte : Type 0
InventsByte = (s u byte : ℕ) → RelaysUp (up s (e.Went u (byte ∷ [])) ∷ []) s → ⊥

-- two came, and the first is written
abbrev pub WritesFront : Type 0
WritesFront = (s u first second : ℕ) (f : RawFrame) (headers : HeaderList) → lent_of f ≡ first ∷ second ∷ []
    → RelaysUp (looked (history.point (history.got f) (found.Chunk s false) ∷ []) (found.Chunk s false) headers
    ∷ up s (e.Went u (first ∷ [])) ∷ []) s

-- one octet of DATA on stream 1
abbrev pub one_octet : RawFrame
one_octet = record { kind = 0; flags = 0; stream = 1; payload = 97 ∷ [] }

-- it goes where none came from the upstream
abbrev pub InventsDown : Type 0
InventsDown = (l : ℕ) → RelaysDown (entry (e.Went l (spelling one_octet)) ∷ []) 1 → ⊥

-- two came, and the first goes
abbrev pub GoesDown : Type 0
GoesDown = (l u second : ℕ)
    → RelaysDown (up 1 (e.Came u (97 ∷ second ∷ [])) ∷ entry (e.Went l (spelling one_octet)) ∷ []) 1

-- the stream is ended while what came is still to go
abbrev pub EndsWaiting : Type 0
EndsWaiting = (u byte : ℕ) (parts : List Part) → parts ≡ up 1 (e.Came u (byte ∷ [])) ∷ up 1 (e.Ended u) ∷ [] → EndsBehind parts 1 → ⊥
