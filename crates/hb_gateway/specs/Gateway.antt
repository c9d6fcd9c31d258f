-- A link to a gateway as a machine: a front header that this end writes, then a client's connection with a tunnel of a captured link on
-- each stream that was asked for.
use Rattle.std.specs.Prelude.{ℕ, ◌+◌, ◌-◌, ◌==◌, if◌then◌else◌, nat_le, ◌&&◌, ◌||◌, not, Bool, true, false, List, [], ◌∷◌, ◌++◌, length, drop, is_ok, codes, Option, Some, None}
use Rattle.hb_base.specs.TargetText.{target_text}
use Rattle.hb_base.specs.declared.cause.Cause.{Cause}
use Rattle.hb_base.specs.declared.cause.Cause.TheVariants as cause
use Rattle.hb_base.specs.declared.target.Target.{Target}
use Rattle.hb_conn.specs.Connection.{Connection, fresh_client, taken}
use Rattle.hb_conn.specs.Observed as connection
use Rattle.hb_conn.specs.Observed.{next_stream, streams_open, room, sides, frames_begun}
use Rattle.hb_conn.specs.declared.found.Found.{Found}
use Rattle.hb_conn.specs.declared.found.Found.TheVariants as found
use Rattle.hb_hpack.specs.StaticTable.{header}
use Rattle.hb_frames.specs.RawFrame.{RawFrame}
use Rattle.hb_hpack.specs.declared.header.Header.{Header}
use Rattle.hb_outgoing.specs.Selected.{data_size}
use Rattle.hb_gateway.specs.Key.{Key, no_key}
use Rattle.hb_gateway.specs.Response.{Stage, Heard, unused, asked, failing, over, cancel}

-- how far the link is
pub data Phase : Type 0 where
  unborn : Phase
  -- it is dialled, and not open yet
  opening : Phase
  -- bytes come and go
  serving : Phase
  -- a connection error of this code was told: what waits may be written once, and the link is to be closed
  faulted : (code : ℕ) → Phase
  -- it is to be closed for this cause
  closing : Cause → Phase
  closed : Phase

pub record Stream : Type 0 where
  pub stage : Stage
  -- the captured link whose tunnel it carries
  pub captured : ℕ
  -- what its tunnel is still to be told
  pub mail : Option Heard
  -- the bytes of it in DATA frames of which an octet was written
  pub begun : ℕ

pub record Gateway : Type 0 where
  -- for whom it is
  pub key : Key
  pub phase : Phase
  -- the bytes of the front header that aren't written
  pub front : List ℕ
  pub conn : Connection
  pub streams : ℕ → Stream
  -- the gateway goes away: it takes no more streams (RFC 9113 section 6.8)
  pub away : Bool

-- nothing was asked on it
abbrev pub no_stream : Stream
no_stream = record { stage = unused; captured = 0; mail = None; begun = 0 }

-- before its birth
abbrev pub no_link : Gateway
no_link = record {
  key = no_key;
  phase = unborn;
  front = [];
  conn = fresh_client;
  streams = λ s. no_stream;
  away = false;
}

abbrev pub stage_of : Gateway → ℕ → Stage
stage_of x s = (x.streams s).stage

abbrev pub with_phase : Phase → Gateway → Gateway
with_phase phase x = record x { phase = phase }

-- the stream with this number, and all of them
abbrev pub at_stage : Stage → Stream → Stream
at_stage stage t = record t { stage = stage }

abbrev pub at_stream : ℕ → (Stream → Stream) → Gateway → Gateway
at_stream s change x = record x { streams = λ k. if k == s then change (x.streams k) else x.streams k }

-- streams are asked for and used from the birth on, while no end came
abbrev pub carries : Phase → Bool
carries opening = true
carries serving = true
carries phase = false

-- IT MAY CARRY ONE TUNNEL MORE: the gateway doesn't go away, fewer streams are open than its limit and 100, a number is left, and 1,024
-- octets have room
abbrev pub has_room : Gateway → Bool
has_room x = not x.away && is_ok (next_stream x.conn) && nat_le 1024 (room x.conn)

abbrev pub offers : Gateway → Bool
offers x = carries x.phase && has_room x

-- the request for a tunnel (RFC 9113 section 8.5)
abbrev pub request_of : Target → List Header
request_of authority = header (codes ":method") (codes "CONNECT") ∷ header (codes ":authority") (target_text authority) ∷ []

-- a tunnel of this captured link is asked for on this stream
abbrev pub asked_on : ℕ → (captured : ℕ) → Target → Gateway → Gateway
asked_on s captured authority x =
    record (at_stream s (λ t. record no_stream { stage = asked; captured = captured }) x) {
      conn = connection.opened x.conn s (request_of authority) false;
    }

-- BYTES

-- what waits to be written: the front header, and then the connection's output
abbrev pub output : Gateway → List ℕ
output x = x.front ++ connection.output x.conn

-- the first n octets of it went; behind a connection error that was the one write
abbrev pub went_by : Phase → Phase
went_by (faulted code) = closing (cause.ConnFault code)
went_by phase = phase

-- with them these DATA frames of a stream begin
abbrev pub with_begun : List RawFrame → ℕ → Stream → Stream
with_begun frames s t = record t { begun = t.begun + data_size (Some s) frames }

abbrev pub went : ℕ → Gateway → Gateway
went n x = record x {
  phase = went_by x.phase;
  front = drop n x.front;
  conn = connection.wrote x.conn (n - length x.front);
  streams = λ s. with_begun (frames_begun (n - length x.front) x.conn) s (x.streams s);
}

abbrev pub came : List ℕ → Gateway → Gateway
came bytes x = record x { conn = taken x.conn bytes }

-- WHAT IS TOLD

abbrev pub phase_by : Phase → Found → Phase
phase_by phase (found.Fault code) = faulted code
phase_by phase told = phase

abbrev pub away_by : Bool → Found → Bool
away_by away (found.GoneAway last) = true
away_by away told = away

-- a stream that is to be reset is over where no side of it is open: nothing may be sent on it (RFC 9113 section 5.1)
abbrev pub is_active : Connection → ℕ → Bool
is_active conn s = (sides conn s).own || (sides conn s).peer

abbrev pub settled : Bool → Stage → Stage
settled false (failing code) = over
settled active stage = stage

abbrev pub on_found : Found → Connection → Gateway → Gateway
on_found told conn x = record x {
  phase = phase_by x.phase told;
  conn = conn;
  streams = λ s. at_stage (settled (is_active conn s) (stage_of x s)) (x.streams s);
  away = away_by x.away told;
}

-- ENDS OF THE LINK

-- the gateway sends no more: the link is done where no stream is open
abbrev pub end_cause : Connection → Cause
end_cause conn = if streams_open conn == 0 then cause.Done else cause.PeerGone

-- it broke, while it wasn't open or later; behind a connection error that was its one write
abbrev pub broken_by : Phase → Phase
broken_by opening = closing cause.Broken
broken_by serving = closing cause.Broken
broken_by (faulted code) = closing (cause.ConnFault code)
broken_by phase = phase

-- its tunnels end: as if the upstream had failed where it wasn't open, else as if the peer had gone
abbrev pub break_cause : Phase → Cause
break_cause opening = cause.UpFault
break_cause phase = cause.PeerGone

-- the run ends
abbrev pub stops_by : Cause → Phase → Phase
stops_by cause opening = closing cause
stops_by cause serving = closing cause
stops_by cause phase = phase

-- ITS CAPTURED LINK ENDS A TUNNEL: the stream is to be reset while a side of it is open

abbrev pub dropped_to : ℕ → Gateway → Stage
dropped_to s x = if carries x.phase && is_active x.conn s then failing cancel else over
