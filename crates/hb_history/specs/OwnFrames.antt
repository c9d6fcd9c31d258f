-- The frames of a client that asks on one stream (RFC 9113 sections 3.4, 5.1 and 6).
use Rattle.std.specs.Prelude.{⊤, ◌≡◌, ◌⊎◌, ℕ, ◌==◌, ◌&&◌, ◌||◌, not, Bool, true, false, if◌then◌else◌, fold, List, [], ◌∷◌}
use Rattle.std.specs.List.{list_any}
use Rattle.hb_frames.specs.RawFrame.{RawFrame}
use Rattle.hb_frames.specs.Numbers.{data_kind, headers_kind, goaway_kind, window_update_kind}
use Rattle.hb_streams.specs.declared.role.Role.TheVariants.{Client}
use Rattle.hb_conn.specs.Connection.{Connection, client_settings}
use Rattle.hb_conn.specs.declared.found.Found.{Found}
use Rattle.hb_conn.specs.declared.found.Found.TheVariants as found
use Rattle.hb_history.specs.Points.{Move, got, refused, misbegan, opened, credited, put, wrote, Point}
use Rattle.hb_history.specs.Answered.{is_answer}
use Rattle.hb_history.specs.History.{StandsFor}

-- a client's first stream
abbrev pub first_stream : ℕ
first_stream = 1

-- how far such a client is: its stream isn't open yet; it goes on; a connection error was told; its stream was reset, or an error
-- of it was told; or the client did anything else
pub data Stage : Type 0 where
  begins : Stage
  asks : Stage
  faulted : Stage
  cut : Stage
  strays : Stage

-- after a frame of which this is told
abbrev pub told_stage : Found → Stage
told_stage (found.Fault code) = faulted
told_stage (found.Reset stream code) = cut
told_stage (found.Broken stream code) = cut
told_stage _ = asks

-- first it opens its stream, and doesn't end it
abbrev pub opened_stage : Move → Stage
opened_stage (opened stream headers end) = if stream == first_stream && not end then asks else strays
opened_stage _ = strays

-- then it looks at frames, uses up octets of the stream, puts DATA on it, and writes
abbrev pub asking_stage : Move → Found → Stage
asking_stage (got f) told = told_stage told
asking_stage (refused r kind flags) told = told_stage told
asking_stage misbegan told = told_stage told
asking_stage (credited stream n) told = if stream == first_stream then asks else strays
asking_stage (put stream bytes) told = if stream == first_stream then asks else strays
asking_stage (wrote n) told = asks
asking_stage _ told = strays

-- behind a connection error it only writes
abbrev pub faulted_stage : Move → Stage
faulted_stage (wrote n) = faulted
faulted_stage _ = strays

abbrev pub stage_after : Stage → Point → Stage
stage_after begins p = opened_stage p.move
stage_after asks p = asking_stage p.move p.told
stage_after faulted p = faulted_stage p.move
stage_after _ p = strays

-- how far it is after some points
abbrev pub stage : List Point → Stage
stage points = fold stage_after begins points

-- it did nothing else
abbrev pub Asks : Stage → Type 0
Asks strays = ⊥
Asks _ = ⊤

-- HEADERS of the stream with END_HEADERS alone, so without END_STREAM
abbrev pub is_request : RawFrame → Bool
is_request f = f.kind == headers_kind && f.stream == first_stream && f.flags == 4

-- a frame that may stand behind it: SETTINGS or PING with ACK, a WINDOW_UPDATE of the connection or of the stream, or DATA of the
-- stream with no flag, so without END_STREAM
abbrev pub is_later : RawFrame → Bool
is_later f =
    is_answer f && f.stream == 0
    || f.kind == window_update_kind && (f.stream == 0 || f.stream == first_stream)
    || f.kind == data_kind && f.stream == first_stream && f.flags == 0

abbrev pub is_fault : Found → Bool
is_fault (found.Fault code) = true
is_fault _ = false

-- a GOAWAY of the connection, where an error of it was told
abbrev pub IsGoodbye : List Found → RawFrame → Type 0
IsGoodbye told f = (f.kind ≡ goaway_kind) × (f.stream ≡ 0) × (list_any is_fault told ≡ true)

-- such frames one after another, of which the last may be a GOAWAY
abbrev pub AreLater : List Found → List RawFrame → Type 0
AreLater told [] = ⊤
AreLater told (f ∷ []) = (is_later f ≡ true) ⊎ IsGoodbye told f
AreLater told (f ∷ g ∷ frames) = (is_later f ≡ true) × AreLater told (g ∷ frames)

-- the opening SETTINGS, the request's HEADERS, and such frames, or a front of these
abbrev pub AreOwn : List Found → List RawFrame → Type 0
AreOwn told [] = ⊤
AreOwn told (f ∷ []) = f ≡ client_settings
AreOwn told (f ∷ g ∷ frames) = (f ≡ client_settings) × (is_request g ≡ true) × AreLater told frames

-- after every history of a client that only asks on its stream the frames that began are such
abbrev pub OwnFrames : Type 0
OwnFrames = (points : List Point) (given : List Found) (came written : List ℕ) (c : Connection)
    → (stands : StandsFor Client points given came written c) → Asks (stage points) → AreOwn given stands.begun
