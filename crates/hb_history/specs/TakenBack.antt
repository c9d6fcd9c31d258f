-- With the end of a stream, or of a connection, DATA that hasn't begun is taken back (RFC 9113 sections 5.4.1 and 6.4).
use Rattle.std.specs.Prelude.{⊤, ◌≡◌, ℕ, ◌==◌, ◌&&◌, Bool, false, [], ◌∷◌, None}
use Rattle.std.specs.List.{AllByRecursion}
use Rattle.hb_frames.specs.RawFrame.{RawFrame}
use Rattle.hb_outgoing.specs.Waiting.{Waiting}
use Rattle.hb_outgoing.specs.Selected.{has_data}
use Rattle.hb_conn.specs.Connection.{Connection, Finds}
use Rattle.hb_conn.specs.declared.found.Found.{Found}
use Rattle.hb_conn.specs.declared.found.Found.TheVariants as found

-- a DATA frame with payload, of this stream
abbrev pub has_data_on : ℕ → RawFrame → Bool
has_data_on stream f = has_data f && f.stream == stream

-- none waits to begin, of the stream, or of any
abbrev pub NoneWaitsOn : ℕ → Waiting → Type 0
NoneWaitsOn stream w = AllByRecursion (λ f. has_data_on stream f ≡ false) w.queue

abbrev pub NoneWaits : Waiting → Type 0
NoneWaits w = AllByRecursion (λ f. has_data f ≡ false) w.queue

-- behind a reset by the peer, a stream error and a connection error
abbrev pub IsTakenBack : Found → Waiting → Type 0
IsTakenBack (found.Reset stream code) w = NoneWaitsOn stream w
IsTakenBack (found.Broken stream code) w = NoneWaitsOn stream w
IsTakenBack (found.Fault code) w = NoneWaits w
IsTakenBack _ w = ⊤

-- so it is whatever is found
abbrev pub EndsTakeBack : Type 0
EndsTakeBack = (c d : Connection) (told : Found) → Finds c d told → IsTakenBack told d.receiver.core.out

-- an output in which one octet of DATA waits on stream 3
abbrev pub waiting_on_three : Waiting
waiting_on_three = record {
  rest = [];
  begun = None;
  queue = record { kind = 0; flags = 0; stream = 3; payload = 97 ∷ [] } ∷ [];
}

-- it isn't one behind the end of stream 3, or of the connection; it may be one behind the end of another stream
abbrev pub KeptIsRefused : Type 0
KeptIsRefused = (code : ℕ) → IsTakenBack (found.Reset 3 code) waiting_on_three → ⊥

abbrev pub KeptByErrorIsRefused : Type 0
KeptByErrorIsRefused = (code : ℕ) → IsTakenBack (found.Broken 3 code) waiting_on_three → ⊥

abbrev pub KeptByFaultIsRefused : Type 0
KeptByFaultIsRefused = (code : ℕ) → IsTakenBack (found.Fault code) waiting_on_three → ⊥

abbrev pub OthersMayWait : Type 0
OthersMayWait = (code : ℕ) → IsTakenBack (found.Reset 5 code) waiting_on_three
