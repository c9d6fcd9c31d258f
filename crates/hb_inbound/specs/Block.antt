-- What is held of a header block.
use Rattle.std.specs.Prelude.{◌≡◌, ◌⊎◌, ℕ, List, [], ◌∷◌, ◌++◌}
use Rattle.hb_frames.specs.Numbers.{headers_kind, continuation_kind}
use Rattle.hb_frames.specs.RawFrame.{RawFrame, spelling}
use Rattle.hb_outgoing.specs.Waiting.{spelled}
use Rattle.hb_conn.specs.Connection.{Connection, fresh_server}
use Rattle.hb_conn.specs.Observed.{octets_held, LacksBlock}
use Rattle.hb_kept.specs.Kept.{IsKept}

-- a frame of a header block is among those held (RFC 9113 section 4.3)
pub record HoldsBlock (octets : List ℕ) : Type 0 where
  pub before : List RawFrame
  pub frame : RawFrame
  pub rest : List ℕ
  pub octets_are : octets ≡ spelled before ++ (spelling frame ++ rest)
  pub kind : (frame.kind ≡ headers_kind) ⊎ (frame.kind ≡ continuation_kind)

-- a kept connection for whose header block memory is wanting holds a frame of it
abbrev pub LacksHeld : Type 0
LacksHeld = (c : Connection) → IsKept c → LacksBlock c → HoldsBlock (octets_held c)

-- a server's connection that holds these octets; one of DATA, and one of HEADERS, on the stream 1
abbrev pub holding : List ℕ → Connection
holding octets = record fresh_server {
  receiver = record fresh_server.receiver { reader = record fresh_server.receiver.reader { held = octets } };
}

abbrev pub one_of_data : List ℕ
one_of_data = 0 ∷ 0 ∷ 1 ∷ 0 ∷ 0 ∷ 0 ∷ 0 ∷ 0 ∷ 1 ∷ 120 ∷ []

abbrev pub one_of_headers : List ℕ
one_of_headers = 0 ∷ 0 ∷ 1 ∷ 1 ∷ 4 ∷ 0 ∷ 0 ∷ 0 ∷ 1 ∷ 130 ∷ []

-- memory isn't wanting where no frame is held, nor for DATA; for HEADERS it may be
abbrev pub NoneIsRefused : Type 0
NoneIsRefused = LacksBlock (holding []) → ⊥

abbrev pub DataIsRefused : Type 0
DataIsRefused = LacksBlock (holding one_of_data) → ⊥

abbrev pub HeadersMayLack : Type 0
HeadersMayLack = LacksBlock (holding one_of_headers)
