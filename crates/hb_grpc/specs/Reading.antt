use Rattle.std.specs.Prelude.{◌≡◌, ℕ, ◌+◌, ◌-◌, ◌<◌, ◌==◌, not, nat_lt, List, [], ◌∷◌, ◌++◌, length, take, drop, slice_index}
use Rattle.std.specs.Prelude.{Option, Some, None, Result, Ok, Err, if◌then◌else◌}
use Rattle.std.specs.Int.{w32, from_be_bytes}
use Rattle.hb_base.specs.declared.or.Or.{Or}
use Rattle.hb_base.specs.declared.or.Or.TheVariants as or
use Rattle.hb_grpc.specs.declared.fault.GrpcFault.{GrpcFault}
use Rattle.hb_grpc.specs.declared.fault.GrpcFault.TheVariants.{Compressed, TooLong}
use Rattle.hb_grpc.specs.declared.framer.Fed.{Fed}

-- the length behind the flag, the most significant byte first
abbrev pub size_at : List ℕ → ℕ
size_at bytes =
    from_be_bytes w32 (slice_index bytes 1 ∷ slice_index bytes 2 ∷ slice_index bytes 3 ∷ slice_index bytes 4 ∷ [])

-- What the first five bytes tell: the length of the message; nothing yet; a flag that isn't 0, which the first byte
-- tells; or a length above the limit, which the fifth byte tells.
abbrev pub announced : ℕ → List ℕ → Result (Option ℕ) GrpcFault
announced limit bytes =
    if length bytes == 0 then Ok None
    else if not (slice_index bytes 0 == 0) then Err (Compressed (slice_index bytes 0))
    else if nat_lt (length bytes) 5 then Ok None
    else if nat_lt limit (size_at bytes) then Err (TooLong (size_at bytes))
    else Ok (Some (size_at bytes))

abbrev pub whole_of : List ℕ → Result (Option ℕ) GrpcFault → Result (Option ℕ) GrpcFault
whole_of bytes (Ok None) = Ok None
whole_of bytes (Ok (Some size)) = if nat_lt (length bytes) (5 + size) then Ok None else Ok (Some size)
whole_of bytes (Err fault) = Err fault

-- what the bytes begin with: a message of so many bytes, no whole message yet, or a fault
abbrev pub first_of : ℕ → List ℕ → Result (Option ℕ) GrpcFault
first_of limit bytes = whole_of bytes (announced limit bytes)

-- how many bytes tell a fault
abbrev pub told_by : GrpcFault → ℕ
told_by (Compressed flag) = 1
told_by (TooLong size) = 5

-- what a Framer stands for: the longest message that it takes, and the bytes fed and not yet given as messages
pub record Framing : Type 0 where
  pub limit : ℕ
  pub held : List ℕ

-- what is held of the bytes: nothing behind a whole message, and of a fault the bytes that tell it
abbrev pub held_of : List ℕ → Result (Option ℕ) GrpcFault → List ℕ
held_of bytes (Ok None) = bytes
held_of bytes (Ok (Some size)) = []
held_of bytes (Err fault) = take (told_by fault) bytes

-- after a piece was fed
abbrev pub fed : Framing → List ℕ → Framing
fed f piece = record f { held = held_of (f.held ++ piece) (first_of f.limit (f.held ++ piece)) }

abbrev pub answer_of : List ℕ → List ℕ → Result (Option ℕ) GrpcFault → Result Fed GrpcFault
answer_of held piece (Ok None) = Ok (record { taken = length piece; message = None })
answer_of held piece (Ok (Some size)) =
    Ok (record { taken = 5 + size - length held; message = Some (take size (drop 5 (held ++ piece))) })
answer_of held piece (Err fault) = Err fault

-- The answer to a piece: a message that is whole with it, and the bytes of the piece that end it; or else all of the
-- piece; or the fault.
abbrev pub answer : Framing → List ℕ → Result Fed GrpcFault
answer f piece = answer_of f.held piece (first_of f.limit (f.held ++ piece))

-- after want of memory nothing has changed
abbrev pub Leaves : Result Fed (Or GrpcFault) → Framing → Framing → Framing → Type 0
Leaves (Ok given) old next new = new ≡ next
Leaves (Err (or.Fault fault)) old next new = new ≡ next
Leaves (Err or.NoMemory) old next new = new ≡ old

-- the body held is a part of the message that is announced
abbrev pub MayHold : Result (Option ℕ) GrpcFault → List ℕ → Type 0
MayHold (Ok (Some size)) body = length body < size
MayHold (Ok None) body = body ≡ []
MayHold (Err fault) body = body ≡ []
