use Rattle.std.specs.Prelude.{ℕ, Bool, ◌==◌, ◌||◌, nat_lt, nat_le, if◌then◌else◌, Result, Ok, Err}
use Rattle.std.specs.FinMap.{len}
use Rattle.hb_base.specs.declared.scope.Scope.TheVariants.{Connection, Stream}
use Rattle.hb_frames.specs.Numbers.{data_kind, headers_kind, rst_stream_kind, window_update_kind, protocol_error}
use Rattle.hb_frames.specs.Numbers.{stream_closed, refused_stream, largest}
use Rattle.hb_streams.specs.Numbers.{is_even, next_odd}
use Rattle.hb_streams.specs.States.{States, state_of, is_full}
use Rattle.hb_streams.specs.declared.role.Role.{Role}
use Rattle.hb_streams.specs.declared.role.Role.TheVariants.{Server, Client}
use Rattle.hb_streams.specs.declared.state.State.{State}
use Rattle.hb_streams.specs.declared.state.State.TheVariants.{Idle, Open, HalfClosedLocal, HalfClosedRemote, Closed, Reset}
use Rattle.hb_streams.specs.declared.step.Step.{Step}
use Rattle.hb_streams.specs.declared.step.Step.TheVariants.{New, Goes, Ignored}
use Rattle.hb_streams.specs.declared.fault.StreamFault.{StreamFault}
use Rattle.hb_streams.specs.declared.fault.OpenFault.{OpenFault}
use Rattle.hb_streams.specs.declared.fault.OpenFault.TheVariants.{Full, Spent}

-- a connection error, and an error of the stream n (RFC 9113 section 5.4)

abbrev pub connection_error : ℕ → Result Step StreamFault
connection_error code = Err (record { code = code; scope = Connection })

abbrev pub stream_error : ℕ → ℕ → Result Step StreamFault
stream_error n code = Err (record { code = code; scope = Stream n })

-- DATA on the stream n (RFC 9113 section 6.1). Row 17: it is idle; 20: the peer has ended it; 19: it is closed, and
-- this end didn't reset it a short while ago
abbrev pub data_answer : ℕ → State → Result Step StreamFault
data_answer n Idle = connection_error protocol_error
data_answer n Open = Ok Goes
data_answer n HalfClosedLocal = Ok Goes
data_answer n HalfClosedRemote = stream_error n stream_closed
data_answer n Closed = connection_error stream_closed
data_answer n Reset = Ok Ignored

-- HEADERS on an idle stream (RFC 9113 sections 5.1.1 and 5.1.2). Row 16: a client's peer begins none, a server's none
-- with an even number; 24: the server has no room for one more
abbrev pub begin_answer : Role → Bool → ℕ → Result Step StreamFault
begin_answer Client full n = connection_error protocol_error
begin_answer Server full n =
    if is_even n then connection_error protocol_error
    else if full then stream_error n refused_stream
    else Ok New

-- HEADERS on a stream that the peer hasn't ended: a client's response and what comes behind it. Row 25: to a server,
-- on which no tunnel has a second header block (RFC 9113 section 8.5)
abbrev pub more_headers_answer : Role → ℕ → Result Step StreamFault
more_headers_answer Client n = Ok Goes
more_headers_answer Server n = stream_error n protocol_error

-- HEADERS on the stream n (RFC 9113 section 6.2). Rows 16, 24 and 25 as above; 20 and 19 as for DATA
abbrev pub headers_answer : Role → Bool → ℕ → State → Result Step StreamFault
headers_answer role full n Idle = begin_answer role full n
headers_answer role full n Open = more_headers_answer role n
headers_answer role full n HalfClosedLocal = more_headers_answer role n
headers_answer role full n HalfClosedRemote = stream_error n stream_closed
headers_answer role full n Closed = connection_error stream_closed
headers_answer role full n Reset = Ok Ignored

-- RST_STREAM and WINDOW_UPDATE (RFC 9113 sections 6.4 and 6.9). Row 17: the stream is idle; on a closed one they may
-- still come
abbrev pub control_answer : State → Result Step StreamFault
control_answer Idle = connection_error protocol_error
control_answer Closed = Ok Ignored
control_answer Reset = Ok Ignored
control_answer _ = Ok Goes

-- what a frame of this type on the stream n is answered; every other type is ignored (RFC 9113 section 5.5)
abbrev pub answer_of : States → ℕ → ℕ → Result Step StreamFault
answer_of s kind n =
    if kind == data_kind then data_answer n (state_of s n)
    else if kind == headers_kind then headers_answer s.role (is_full s) n (state_of s n)
    else if kind == rst_stream_kind || kind == window_update_kind then control_answer (state_of s n)
    else Ok Ignored

-- the number of the next stream of this end, or why there is none: as many are active as the limit or 100, and then:
-- no odd number is left (RFC 9113 sections 5.1.1 and 5.1.2)
abbrev pub number_of : States → ℕ → Result ℕ OpenFault
number_of s limit =
    if nat_le limit (len s.active) || is_full s then Err Full
    else if nat_lt largest (next_odd s.highest) then Err Spent
    else Ok (next_odd s.highest)
