-- What a frame is beside its octets (RFC 9113 section 4.1).
use Rattle.std.specs.Prelude.{⊤, ℕ, ◌≤◌, ◌*◌, ◌+◌, ◌%◌, ◌==◌, not, Bool, if◌then◌else◌, length, slice_index, bit_and, Option, Some, None, Result, Ok, Err}
use Rattle.hb_frames.specs.Octets.{four_at}
use Rattle.hb_frames.specs.RawFrame.{RawFrame, raw_at}
use Rattle.hb_frames.specs.Refusals.{is_ack, increment_of}
use Rattle.hb_frames.specs.Reading.{Reading, first_of}
use Rattle.hb_frames.specs.declared.refusal.Refusal.{Refusal}
use Rattle.hb_frames.specs.Numbers.{data_kind, headers_kind, rst_stream_kind, settings_kind, ping_kind, goaway_kind}
use Rattle.hb_frames.specs.Numbers.{window_update_kind, continuation_kind, end_stream_flag, end_headers_flag, largest}
use Rattle.hb_conn.specs.declared.glance.Glance.{Glance}
use Rattle.hb_conn.specs.declared.glance.Glance.TheVariants.{Nothing, Data, Headers, Reset, Settings, Ping, GoAway, Window, Continuation, Other, Refused}

abbrev pub has_flag : RawFrame → ℕ → Bool
has_flag f flag = not (bit_and f.flags flag == 0)

-- frames that aren't of a stream's DATA or headers
abbrev pub glance_at_others : RawFrame → Glance
glance_at_others f =
    if f.kind == settings_kind then Settings (is_ack f)
    else if f.kind == ping_kind then Ping (is_ack f) (four_at f.payload 0 * 4294967296 + four_at f.payload 4)
    else if f.kind == goaway_kind then GoAway (four_at f.payload 0 % 2147483648)
    else if f.kind == window_update_kind then Window f.stream (increment_of f)
    else Other

abbrev pub glance_at : RawFrame → Glance
glance_at f =
    if f.kind == data_kind then Data f.stream (length f.payload) (has_flag f end_stream_flag)
    else if f.kind == headers_kind then Headers f.stream (has_flag f end_stream_flag) (has_flag f end_headers_flag)
    else if f.kind == rst_stream_kind then Reset f.stream (four_at f.payload 0)
    else if f.kind == continuation_kind then Continuation f.stream (has_flag f end_headers_flag)
    else glance_at_others f

-- the frame in front of what a reader holds, or why it is refused
abbrev pub glance_by : Reading → Result (Option ℕ) Refusal → Glance
glance_by r (Ok None) = Nothing
glance_by r (Ok (Some n)) = glance_at (raw_at r.held)
glance_by r (Err refusal) = Refused refusal.code refusal.row (slice_index r.held 3) (slice_index r.held 4)

abbrev pub glance_of : Reading → Glance
glance_of r = glance_by r (first_of r.max r.held)

-- a frame of a header block (RFC 9113 section 4.3)
abbrev pub IsOfBlock : Glance → Type 0
IsOfBlock (Headers stream end whole) = ⊤
IsOfBlock (Continuation stream whole) = ⊤
IsOfBlock _ = ⊥

-- the number of a stream has 31 bits
abbrev pub IsInRange : Glance → Type 0
IsInRange (Data stream counted end) = stream ≤ largest
IsInRange (Headers stream end whole) = stream ≤ largest
IsInRange (Reset stream code) = stream ≤ largest
IsInRange (Window stream increment) = stream ≤ largest
IsInRange (Continuation stream whole) = stream ≤ largest
IsInRange _ = ⊤

-- with a frame, which has nine octets at least, less is held than before
abbrev pub Falls : Glance → ℕ → ℕ → Type 0
Falls Nothing before now = now ≤ before
Falls (Refused code row kind flags) before now = now ≤ before
Falls _ before now = now + 9 ≤ before
