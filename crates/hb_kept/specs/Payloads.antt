-- The DATA of a stream that this end puts: what of it has begun, what waits to begin, and what is still to be put.
use Rattle.std.specs.Prelude.{◌≡◌, ◌≢◌, ◌⊎◌, ℕ, ◌<◌, ◌≤◌, ◌==◌, ◌&&◌, true, false, if◌then◌else◌, List, ◌∷◌, [], ◌++◌, length, take, drop, is_some}
use Rattle.std.specs.FinMap.{get}
use Rattle.std.specs.List.{flat_map}
use Rattle.hb_frames.specs.Numbers.{data_kind}
use Rattle.hb_frames.specs.RawFrame.{RawFrame, spelling}
use Rattle.hb_outgoing.specs.Waiting.{nothing, spelled}
use Rattle.hb_owed.specs.declared.status.Status.{Status}
use Rattle.hb_streams.specs.declared.role.Role.{Role}
use Rattle.hb_conn.specs.Connection.{Connection}
use Rattle.hb_conn.specs.Observed.{outgoing, streams, is_over, frames_begun, creditable, count_put, wrote, data_put, credited, status_put, end_put, aborted}
use Rattle.hb_conn.specs.declared.found.Found.{Found}
use Rattle.hb_history.specs.Points.{Point}
use Rattle.hb_history.specs.History.{StandsFor}
use Rattle.hb_kept.specs.Looks.{IsLook}
use Rattle.hb_kept.specs.Numbers.{highest_used}

-- the payload of a DATA frame of the stream
abbrev pub payload_on : ℕ → RawFrame → List ℕ
payload_on stream f = if f.kind == data_kind && f.stream == stream then f.payload else []

abbrev pub payloads : ℕ → List RawFrame → List ℕ
payloads stream frames = flat_map (payload_on stream) frames

-- the octets that went are whole frames and the first octets of one more, one octet at least
pub record InPart (went : List ℕ) (begun : List RawFrame) : Type 0 where
  pub whole : List RawFrame
  pub last : RawFrame
  pub begun_are : begun ≡ whole ++ last ∷ []
  pub part : List ℕ
  pub some : 0 < length part
  pub rest : List ℕ
  pub last_is : spelling last ≡ part ++ rest
  pub went_are : went ≡ spelled whole ++ part

-- these are the frames that have begun with the octets that went: an octet of each of them went, and of no other
abbrev pub Began : List ℕ → List RawFrame → Type 0
Began went begun = (went ≡ spelled begun) ⊎ InPart went begun

-- a frame of which no octet went hasn't begun; one has with its first octet
abbrev pub UnbegunIsRefused : Type 0
UnbegunIsRefused = (f : RawFrame) → Began [] (f ∷ []) → ⊥

abbrev pub FirstOctetBegins : Type 0
FirstOctetBegins = (f : RawFrame) → Began (take 1 (spelling f)) (f ∷ [])

-- the stream goes on: no connection error was told, and it is open or half-closed
abbrev pub GoesOn : ℕ → Connection → Type 0
GoesOn stream c = (is_over c ≡ false) × (is_some (get (streams c).active stream) ≡ true)

-- The payload of the frames begun, and of those that wait, is a front of all that is to be sent on the stream. While the stream goes
-- on, what is behind it waits to be put; before the stream is used there is nothing to be sent
pub record Follows (stream : ℕ) (begun : List RawFrame) (all waiting : List ℕ) (c : Connection) : Type 0 where
  pub rest : List ℕ
  pub front : all ≡ payloads stream (begun ++ (outgoing c).queue) ++ rest
  pub goes : GoesOn stream c → rest ≡ waiting
  pub unused : highest_used c < stream → (all ≡ []) × (waiting ≡ [])

-- so it stays whatever is found, whatever is written, and with each act on any stream
abbrev pub Stays : Connection → Connection → Type 0
Stays c d = (stream : ℕ) (begun : List RawFrame) (all waiting : List ℕ) → Follows stream begun all waiting c
    → Follows stream begun all waiting d

abbrev pub OfHistories : (Connection → Type 0) → Type 0
OfHistories P = (role : Role) (points : List Point) (given : List Found) (came written : List ℕ) (c : Connection)
    → StandsFor role points given came written c → P c

abbrev pub LooksFollow : Type 0
LooksFollow = OfHistories (λ c. (d : Connection) (points : List Point) (told : Found) → IsLook c points told d → Stays c d)

abbrev pub WritesFollow : Type 0
WritesFollow = OfHistories (λ c. (stream n : ℕ) (begun : List RawFrame) (all waiting : List ℕ) → Follows stream begun all waiting c
    → Follows stream (begun ++ frames_begun n c) all waiting (wrote c n))

abbrev pub UsesFollow : Type 0
UsesFollow = OfHistories (λ c. (used n : ℕ) → n ≤ creditable c used → Stays c (credited c used n))

abbrev pub AnswersFollow : Type 0
AnswersFollow = OfHistories (λ c. (answered : ℕ) (status : Status) → Stays c (status_put c answered status))

abbrev pub EndsFollow : Type 0
EndsFollow = OfHistories (λ c. (ended : ℕ) → Stays c (end_put c ended))

abbrev pub ResetsFollow : Type 0
ResetsFollow = OfHistories (λ c. (reset code : ℕ) → Stays c (aborted c reset code))

-- with DATA of another stream; DATA of the stream is taken from what waits
abbrev pub OthersFollow : Type 0
OthersFollow = OfHistories (λ c. (stream other : ℕ) (bytes : List ℕ) → other ≢ stream → (begun : List RawFrame) (all waiting : List ℕ)
    → Follows stream begun all waiting c → Follows stream begun all waiting (data_put c other bytes))

abbrev pub PutsFollow : Type 0
PutsFollow = OfHistories (λ c. (stream : ℕ) (begun : List RawFrame) (all waiting : List ℕ) → 0 < count_put c stream waiting
    → Follows stream begun all waiting c → Follows stream begun all (drop (count_put c stream waiting) waiting) (data_put c stream waiting))

-- more is to be sent on a stream that was used
abbrev pub MoreFollows : Type 0
MoreFollows = (stream : ℕ) (begun : List RawFrame) (all waiting more : List ℕ) (c : Connection) → stream ≤ highest_used c
    → Follows stream begun all waiting c → Follows stream begun (all ++ more) (waiting ++ more) c

-- an octet that goes and wasn't to be sent is refused; so is one that was, and neither has begun nor waits, while the stream goes on
abbrev pub InventedIsRefused : Type 0
InventedIsRefused = (stream octet : ℕ) (c : Connection) (f : RawFrame) → payload_on stream f ≡ octet ∷ []
    → Follows stream (f ∷ []) [] [] c → ⊥

abbrev pub LostIsRefused : Type 0
LostIsRefused = (stream first second : ℕ) (c : Connection) → GoesOn stream c → outgoing c ≡ nothing
    → Follows stream [] (first ∷ second ∷ []) (second ∷ []) c → ⊥

-- both may wait to be put
abbrev pub BothMayWait : Type 0
BothMayWait = (stream first second : ℕ) (c : Connection) → stream ≤ highest_used c → outgoing c ≡ nothing
    → Follows stream [] (first ∷ second ∷ []) (first ∷ second ∷ []) c
