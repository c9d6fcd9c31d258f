use Rattle.std.specs.Prelude.{ℕ, zero, suc, ◌+◌, ◌<◌, ◌^◌, List, [], ◌∷◌, length, take, drop, Option, Some, None, Result, Ok, Err}
use Rattle.hb_grpc.specs.Message.{AreMessages, AreOctets}
use Rattle.hb_grpc.specs.Reading.{first_of}
use Rattle.hb_grpc.specs.declared.fault.GrpcFault.{GrpcFault}

-- the messages that stand in front of bytes that are there whole, and the bytes behind them
pub record Framed : Type 0 where
  pub messages : List (List ℕ)
  pub rest : List ℕ

abbrev pub with_first : List ℕ → Framed → Framed
with_first m f = record { messages = m ∷ f.messages; rest = f.rest }

abbrev pub framed_from : List ℕ → (List ℕ → Framed) → Result (Option ℕ) GrpcFault → Framed
framed_from bytes behind (Ok (Some size)) = with_first (take size (drop 5 bytes)) (behind (drop (5 + size) bytes))
framed_from bytes behind (Ok None) = record { messages = []; rest = bytes }
framed_from bytes behind (Err fault) = record { messages = []; rest = bytes }

-- at most n messages
unfoldable pub framed_within : ℕ → ℕ → List ℕ → Framed
framed_within zero limit bytes = record { messages = []; rest = bytes }
framed_within (suc n) limit bytes = framed_from bytes (λ b. framed_within n limit b) (first_of limit bytes)

-- The messages of at most `limit` bytes in front, up to the first that is longer or isn't whole. Each has five bytes, so
-- there are no more messages than bytes.
unfoldable pub framed_of : ℕ → List ℕ → Framed
framed_of limit bytes = framed_within (length bytes) limit bytes

-- These are the messages of the bytes, and there are no others.
abbrev pub FramedAreAll : Type 0
FramedAreAll = (limit : ℕ) (bytes : List ℕ) → limit < 2 ^ 32 → AreOctets bytes
    → AreMessages limit bytes (framed_of limit bytes).messages (framed_of limit bytes).rest
