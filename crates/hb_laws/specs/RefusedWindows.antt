-- DATA that begins beyond what the peer granted (RFC 9113 sections 4.2 and 6.9), on links of each kind.
use Rattle.std.specs.Prelude.{◌≡◌, ◌⊎◌, ℕ, ◌+◌, ◌≤◌, ◌<◌, true, List, [], ◌∷◌, ◌++◌, length, Some, None}
use Rattle.hb_conn.specs.Preface.{octets}
use Rattle.hb_flow.specs.Windows.{first_size}
use Rattle.hb_frames.specs.Numbers.{first_frame_size}
use Rattle.hb_frames.specs.RawFrame.{RawFrame}
use Rattle.hb_gateway.specs.Connections as gates
use Rattle.hb_gateway.specs.Part as gateway
use Rattle.hb_history.specs.Fits.{initial_size, FitsWindows}
use Rattle.hb_history.specs.Points.{frames_got}
use Rattle.hb_history.specs.Sending.{increments}
use Rattle.hb_inbound.specs.Connections.{WindowLaw}
use Rattle.hb_inbound.specs.Part as part
use Rattle.hb_inbound.specs.Part.{Part, moves}
use Rattle.hb_inbound.specs.RelayRefused.{one_octet}
use Rattle.hb_inbound.specs.Sides.{link_went}
use Rattle.hb_model.specs.Calls.{IsControl}
use Rattle.hb_model.specs.Point as point
use Rattle.hb_model.specs.Windows as control
use Rattle.hb_model.specs.declared.config.NodeConfig.{NodeConfig}
use Rattle.hb_outgoing.specs.Selected.{has_data, data_size}
use Rattle.hb_outgoing.specs.Waiting.{spelled}
use Rattle.hb_proxy.specs.Owners.{owner, inbound_link, gateway_link}
use Rattle.hb_proxy.specs.Points.{Point, entries, control_of, parts_of, gates_of}
use Rattle.hb_world.specs.Trace.{sent}
use Rattle.hb_world.specs.declared.entry.Entry.{Entry}
use Rattle.hb_world.specs.declared.entry.Entry.TheVariants as e
use Rattle.hb_laws.specs.RefusedTunnels.{data_frame}

-- with these bytes whole frames went behind an opening, and the last of them, DATA with payload, begins with these bytes
pub record BeginsLast (opening went bytes : List ℕ) (front : List RawFrame) (frame : RawFrame) : Type 0 where
  pub whole : went ++ bytes ≡ opening ++ spelled (front ++ frame ∷ [])
  pub unbegun : length went ≤ length (opening ++ spelled front)
  pub payload : has_data frame ≡ true

-- behind these frames of this end, and while these came of the peer, it is an octet or more beyond the window of the connection, or that of
-- its stream, or beyond the largest frame
abbrev pub IsBeyond : (frame : RawFrame) (front got : List RawFrame) → Type 0
IsBeyond frame front got =
    (first_size + increments 0 got < data_size None front + length frame.payload)
    ⊎ (initial_size front got + increments frame.stream got < data_size (Some frame.stream) front + length frame.payload)
    ⊎ (first_frame_size < length frame.payload)

-- the window law of an inbound link refuses it alone, and that of the links to the control plane
abbrev pub GoesBeyond : Type 0
GoesBeyond = (l : ℕ) (before : List Part) (bytes : List ℕ) (front : List RawFrame) (frame : RawFrame)
    → BeginsLast [] (link_went before) bytes front frame → IsBeyond frame front (frames_got (moves before))
    → WindowLaw (before ++ part.entry (e.Went l bytes) ∷ []) → ⊥

abbrev pub ControlGoesBeyond : Type 0
ControlGoesBeyond = (l : ℕ) (before : List point.Point) (bytes : List ℕ) (front : List RawFrame) (frame : RawFrame)
    → IsControl l (point.entries before) → BeginsLast octets (sent l (point.entries before)) bytes front frame
    → IsBeyond frame front (frames_got (point.moves l before)) → control.WindowLaw (before ++ point.entry (e.Went l bytes) ∷ []) → ⊥

-- so does the history of a link to a gateway, by its connection behind the front header, all of which went
abbrev pub GateHistoryGoesBeyond : Type 0
GateHistoryGoesBeyond = (n : ℕ) (before : List gateway.Part) (bytes : List ℕ) (front : List RawFrame) (frame : RawFrame)
    → length (gateway.front_header before) ≤ length (gateway.link_went before) → gateway.left_of before ≡ 0
    → BeginsLast octets (gates.conn_went before) bytes front frame → IsBeyond frame front (frames_got (gateway.moves before))
    → gates.IsOneHistory (before ++ gateway.entry (e.Went n bytes) ∷ []) → ⊥

-- the three bounds apart
abbrev pub FitsConnection : RawFrame → (front got : List RawFrame) → Type 0
FitsConnection frame front got = data_size None front + length frame.payload ≤ first_size + increments 0 got

abbrev pub FitsStream : RawFrame → (front got : List RawFrame) → Type 0
FitsStream frame front got =
    data_size (Some frame.stream) front + length frame.payload ≤ initial_size front got + increments frame.stream got

abbrev pub FitsFrame : RawFrame → Type 0
FitsFrame frame = length frame.payload ≤ first_frame_size

-- a fourth frame of 16,384 octets, each on a stream of its own, is an octet beyond the connection's window, and within all else
abbrev pub three : List ℕ → List RawFrame
three payload = data_frame 0 1 payload ∷ data_frame 0 3 payload ∷ data_frame 0 5 payload ∷ []

abbrev pub PassesConnection : Type 0
PassesConnection = (payload : List ℕ) → length payload ≡ 16384 → let fourth = data_frame 0 7 payload in
    FitsFrame fourth × FitsStream fourth (three payload) [] × (FitsConnection fourth (three payload) [] → ⊥)

-- one octet is an octet beyond a stream's window of 0, which SETTINGS set that are acknowledged
abbrev pub none_granted : RawFrame
none_granted = record { kind = 4; flags = 0; stream = 0; payload = 0 ∷ 4 ∷ 0 ∷ 0 ∷ 0 ∷ 0 ∷ [] }

abbrev pub ack : RawFrame
ack = record { kind = 4; flags = 1; stream = 0; payload = [] }

abbrev pub PassesStream : Type 0
PassesStream =
    FitsFrame one_octet × FitsConnection one_octet (ack ∷ []) (none_granted ∷ [])
    × (FitsStream one_octet (ack ∷ []) (none_granted ∷ []) → ⊥)

-- and 16,385 octets are one more than the largest frame has
abbrev pub PassesFrame : Type 0
PassesFrame = (payload : List ℕ) → length payload ≡ 16385 → let frame = data_frame 0 1 payload in
    FitsConnection frame [] [] × FitsStream frame [] [] × (FitsFrame frame → ⊥)

-- exactly as much as is granted fits: the last octet of 65,535 on the connection, and on the stream where no SETTINGS came
abbrev pub LastOctetFits : Type 0
LastOctetFits = (front : List RawFrame) (frame : RawFrame) → length frame.payload ≤ first_frame_size
    → data_size None front + length frame.payload ≡ 65535 → data_size (Some frame.stream) front + length frame.payload ≡ 65535
    → FitsWindows frame front []

-- so it goes on an inbound link, by what was looked at there
pub record LinkGoesBeyond (g : NodeConfig) (before : List Point) (z : Entry) : Type 0 where
  pub link : ℕ
  pub bytes : List ℕ
  pub goes : z ≡ e.Went link bytes
  pub owned : owner link (entries before) ≡ inbound_link
  pub front : List RawFrame
  pub frame : RawFrame
  pub last : BeginsLast [] (sent link (entries before)) bytes front frame
  pub beyond : IsBeyond frame front (frames_got (moves (parts_of link before)))

-- on a link to the control plane, whose frames stand behind a preface (RFC 9113 section 3.4)
pub record PlaneGoesBeyond (g : NodeConfig) (before : List Point) (z : Entry) : Type 0 where
  pub link : ℕ
  pub bytes : List ℕ
  pub goes : z ≡ e.Went link bytes
  pub owned : IsControl link (entries before)
  pub front : List RawFrame
  pub frame : RawFrame
  pub last : BeginsLast octets (sent link (entries before)) bytes front frame
  pub beyond : IsBeyond frame front (frames_got (point.moves link (control_of before)))

-- and on one to a gateway, where the preface stands behind the front header, all of which went
pub record GateGoesBeyond (g : NodeConfig) (before : List Point) (z : Entry) : Type 0 where
  pub link : ℕ
  pub bytes : List ℕ
  pub goes : z ≡ e.Went link bytes
  pub owned : owner link (entries before) ≡ gateway_link
  pub fronted : gateway.left_of (gates_of link before) ≡ 0
  pub front : List RawFrame
  pub frame : RawFrame
  pub last : BeginsLast (gateway.front_header (gates_of link before) ++ octets) (sent link (entries before)) bytes front frame
  pub beyond : IsBeyond frame front (frames_got (gateway.moves (gates_of link before)))
