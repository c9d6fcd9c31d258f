-- Of frames of a client's stream something is told, and of those that end it that it ended (RFC 9113 sections 5.1, 6.1, 6.2 and 6.4).
use Rattle.std.specs.Prelude.{◌≡◌, ℕ, ◌==◌, ◌&&◌, ◌||◌, Bool, false, List, ◌∷◌, ◌++◌}
use Rattle.std.specs.List.{list_any}
use Rattle.hb_frames.specs.Numbers.{data_kind, headers_kind, rst_stream_kind, end_stream_flag, end_headers_flag}
use Rattle.hb_frames.specs.RawFrame.{RawFrame}
use Rattle.hb_streams.specs.declared.role.Role.TheVariants.{Client}
use Rattle.hb_conn.specs.Connection.{Connection}
use Rattle.hb_conn.specs.Glance.{has_flag}
use Rattle.hb_conn.specs.declared.found.Found.{Found}
use Rattle.hb_conn.specs.declared.found.Found.TheVariants.{Silent}
use Rattle.hb_history.specs.History.{StandsFor, happenings}
use Rattle.hb_history.specs.OwnCredits.{is_left}
use Rattle.hb_history.specs.OwnFrames.{first_stream, asks, stage}
use Rattle.hb_history.specs.Points.{Point, point, got, frames_got}

-- RST_STREAM, DATA and whole HEADERS of the stream
abbrev pub is_heard : RawFrame → Bool
is_heard f =
    f.stream == first_stream
    && (f.kind == rst_stream_kind || f.kind == data_kind || f.kind == headers_kind && has_flag f end_headers_flag)

-- those of them that end it: RST_STREAM, or with END_STREAM
abbrev pub ends_stream : RawFrame → Bool
ends_stream f = is_heard f && (f.kind == rst_stream_kind || has_flag f end_stream_flag)

-- while the client's stream goes on, and its peer hasn't ended it, something is told of each
abbrev pub FramesAreHeard : Type 0
FramesAreHeard = (points : List Point) (given : List Found) (came written : List ℕ) (c : Connection)
    → StandsFor Client points given came written c → (before after : List Point) (f : RawFrame)
    → points ≡ before ++ point (got f) Silent ∷ after → stage before ≡ asks → list_any is_left (happenings before) ≡ false
    → is_heard f ≡ false

-- and none of the frames that came ended it
abbrev pub NoneEndedIt : Type 0
NoneEndedIt = (points : List Point) (given : List Found) (came written : List ℕ) (c : Connection)
    → StandsFor Client points given came written c → stage points ≡ asks → list_any is_left (happenings points) ≡ false
    → list_any ends_stream (frames_got points) ≡ false
