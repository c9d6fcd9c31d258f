-- Frames that a client that asks on one stream doesn't write, and frames that it may.
use Rattle.std.specs.Prelude.{◌≡◌, ℕ, false, List, [], ◌∷◌}
use Rattle.std.specs.List.{list_any}
use Rattle.hb_frames.specs.RawFrame.{RawFrame}
use Rattle.hb_frames.specs.Numbers.{data_kind, headers_kind, rst_stream_kind, goaway_kind}
use Rattle.hb_conn.specs.Connection.{client_settings}
use Rattle.hb_conn.specs.Frames.{frame, goaway, ping_ack, settings_ack, window_update}
use Rattle.hb_conn.specs.declared.found.Found.{Found}
use Rattle.hb_conn.specs.declared.found.Found.TheVariants as found
use Rattle.hb_history.specs.OwnFrames.{first_stream, is_fault, AreOwn}

-- frames that stand behind the opening SETTINGS and HEADERS of the first stream with END_HEADERS
abbrev pub asked : List ℕ → List RawFrame → List RawFrame
asked block frames = client_settings ∷ frame headers_kind 4 first_stream block ∷ frames

-- a frame is refused there, whatever is told
abbrev pub Refuses : RawFrame → Type 0
Refuses f = (told : List Found) (block : List ℕ) (more : List RawFrame) → AreOwn told (asked block (f ∷ more)) → ⊥

-- more HEADERS, of the stream or of another one
abbrev pub NoMoreHeaders : Type 0
NoMoreHeaders = (flags stream : ℕ) (payload : List ℕ) → Refuses (frame headers_kind flags stream payload)

-- DATA with END_STREAM, and on another stream
abbrev pub NoEnd : Type 0
NoEnd = (payload : List ℕ) → Refuses (frame data_kind 1 first_stream payload)

abbrev pub NoOtherStream : Type 0
NoOtherStream = (payload : List ℕ) → Refuses (frame data_kind 0 3 payload)

-- a RST_STREAM
abbrev pub NoReset : Type 0
NoReset = (stream : ℕ) (payload : List ℕ) → Refuses (frame rst_stream_kind 0 stream payload)

-- HEADERS with END_STREAM in the request's place
abbrev pub NoEndAtOnce : Type 0
NoEndAtOnce = (told : List Found) (block : List ℕ)
    → AreOwn told (client_settings ∷ frame headers_kind 5 first_stream block ∷ []) → ⊥

-- a GOAWAY where no connection error was told, one of a stream, and anything behind one
abbrev pub NoGoodbye : Type 0
NoGoodbye = (told : List Found) (block : List ℕ) (last code : ℕ) → list_any is_fault told ≡ false
    → AreOwn told (asked block (goaway last code ∷ [])) → ⊥

abbrev pub NoGoodbyeOfStream : Type 0
NoGoodbyeOfStream = (told : List Found) (block payload : List ℕ)
    → AreOwn told (asked block (frame goaway_kind 0 first_stream payload ∷ [])) → ⊥

abbrev pub NothingBehind : Type 0
NothingBehind = (told : List Found) (block : List ℕ) (last code : ℕ) (f : RawFrame)
    → AreOwn told (asked block (goaway last code ∷ f ∷ [])) → ⊥

-- these may go: acknowledged SETTINGS, an increment, DATA, the answer to a PING, and the GOAWAY of a connection error
abbrev pub GoodFrames : Type 0
GoodFrames = (block payload : List ℕ) (n value code : ℕ)
    → AreOwn (found.Fault code ∷ []) (asked block
    (settings_ack ∷ window_update 0 n ∷ window_update first_stream n ∷ frame data_kind 0 first_stream payload ∷ ping_ack value
    ∷ goaway 0 code ∷ []))
