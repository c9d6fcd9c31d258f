-- One tunnel as a machine: what was asked for on a stream of an inbound link, and the upstream that is dialled for it.
use Rattle.std.specs.Prelude.{ℕ, ◌+◌, ◌==◌, if◌then◌else◌, Bool, true, false, ◌&&◌, not, List, length, Option}
use Rattle.hb_base.specs.declared.cause.Cause.{Cause}
use Rattle.hb_base.specs.declared.cause.Cause.TheVariants as cause
use Rattle.hb_base.specs.declared.ip.Ip.TheVariants.{V4}
use Rattle.hb_base.specs.declared.target.Target.{Target}
use Rattle.hb_hpack.specs.declared.header.HeaderList.{HeaderList}
use Rattle.hb_tunnel.specs.Tunnel.{Ways, dialling}
use Rattle.hb_tunnel.specs.Way.{after, pushes, takes, ends, is_done}
use Rattle.hb_world.specs.declared.entry.Entry.{Entry}
use Rattle.hb_world.specs.declared.entry.Entry.TheVariants as e

-- how far it is
pub data Stage : Type 0 where
  -- nothing was asked for on the stream
  unasked : Stage
  -- a request came with these headers, and with the end of the peer's side or without: it is to be answered
  requested : HeaderList → (end : Bool) → Stage
  -- a refusal of this status is to be put; the target that the request named, where it did
  refusing : (status : ℕ) → Option Target → Stage
  -- the request was no request: the stream is to be reset
  malformed : Stage
  -- PENDING: the target is to be dialled; it is dialled, and not open yet; it is open: 200 is to be put
  due : Stage
  opening : Stage
  accepting : Stage
  -- LIVE: bytes come and go
  live : Stage
  -- it ended for this cause while it was pending, or while it was live: what its stream gets is to be put
  failed : Cause → Stage
  ended : Cause → Stage
  -- its stream has got that: its upstream is to be closed for this cause
  over : Cause → Stage
  -- nothing is left of it
  gone : Stage

pub record Tunnel : Type 0 where
  pub stage : Stage
  -- the number of its upstream, 0 before that is dialled
  pub up : ℕ
  pub target : Target
  -- the bytes that wait on each way, and which way has ended: up, by the end of the peer's side; down, by the upstream's end
  pub ways : Ways
  -- the bytes written to the upstream that weren't given back to the stream's window yet
  pub owed : ℕ
  -- all bytes written to the upstream, and those in DATA frames of which an octet was written
  pub went_up : ℕ
  pub went_down : ℕ
  -- nothing more is written to the upstream; this end has ended the stream
  pub shut : Bool
  pub end_put : Bool

-- nothing is asked for
abbrev pub no_tunnel : Tunnel
no_tunnel = record {
  stage = unasked;
  up = 0;
  target = record { ip = V4 0; port = 0 };
  ways = dialling;
  owed = 0;
  went_up = 0;
  went_down = 0;
  shut = false;
  end_put = false;
}

abbrev pub at_stage : Stage → Tunnel → Tunnel
at_stage stage t = record t { stage = stage }

-- a request came on a stream that wasn't used before
abbrev pub requested_with : HeaderList → Bool → Tunnel
requested_with headers end = at_stage (requested headers end) no_tunnel

-- bytes come up, the peer's side ends, the upstream's side ends
abbrev pub came_up : List ℕ → Tunnel → Tunnel
came_up bytes t = record t { ways = record t.ways { up = after t.ways.up (pushes bytes) } }

abbrev pub peer_ended : Tunnel → Tunnel
peer_ended t = record t { ways = record t.ways { up = after t.ways.up ends } }

abbrev pub up_ended : Tunnel → Tunnel
up_ended t = record t { ways = record t.ways { down = after t.ways.down ends } }

-- a target is to be dialled; the peer may have ended its side at once
abbrev pub asked : Target → Bool → Tunnel
asked target true = peer_ended (record no_tunnel { stage = due; target = target })
asked target false = record no_tunnel { stage = due; target = target }

-- it is pending; it is live; it has a place among all tunnels
abbrev pub is_pending : Stage → Bool
is_pending due = true
is_pending opening = true
is_pending accepting = true
is_pending _ = false

abbrev pub is_live : Stage → Bool
is_live live = true
is_live _ = false

abbrev pub takes_place : Stage → Bool
takes_place live = true
takes_place stage = is_pending stage

-- what its stream gets waits to be put
abbrev pub is_failed : Stage → Bool
is_failed (failed cause) = true
is_failed _ = false

abbrev pub is_ended : Stage → Bool
is_ended (ended cause) = true
is_ended _ = false

-- so does an answer: to a request, to the upstream's opening, or to an end
abbrev pub is_unanswered : Stage → Bool
is_unanswered (requested headers end) = true
is_unanswered (refusing status target) = true
is_unanswered malformed = true
is_unanswered accepting = true
is_unanswered (failed cause) = true
is_unanswered (ended cause) = true
is_unanswered _ = false

-- the end of a tunnel, of one that is pending and of one that is live; the first one counts
abbrev pub ends_by : Cause → Stage → Stage
ends_by cause due = failed cause
ends_by cause opening = failed cause
ends_by cause accepting = failed cause
ends_by cause live = ended cause
ends_by cause stage = stage

abbrev pub ends_for : Cause → Tunnel → Tunnel
ends_for cause t = record t { stage = ends_by cause t.stage }

-- its stream has got what it gets: its upstream, where it has one, is to be closed for this cause
abbrev pub left_with : Cause → Tunnel → Tunnel
left_with cause t = record t { stage = if t.up == 0 then gone else over cause }

-- what an entry of its upstream makes of it
abbrev pub up_entered : Entry → Tunnel → Tunnel
up_entered (e.Dialled u to why) t = record t { stage = opening; up = u }
up_entered (e.DialFailed to why) t = ends_for cause.UpFault t
up_entered (e.Opened u) t = record t { stage = accepting; ways = record t.ways { is_open = true } }
up_entered (e.Came u bytes) t = record t { ways = record t.ways { down = after t.ways.down (pushes bytes) } }
up_entered (e.Ended u) t = up_ended t
up_entered (e.Went u bytes) t = record t {
  ways = record t.ways { up = after t.ways.up (takes (length bytes)) };
  owed = t.owed + length bytes;
  went_up = t.went_up + length bytes;
}
up_entered (e.Broke u) t = ends_for cause.UpFault t
up_entered (e.Shut u) t = record t { shut = true }
up_entered (e.Closed u cause) t = at_stage gone t
up_entered _ t = t

-- this end's sending side to the upstream may be shut: the peer has ended the stream, and all that it sent is written
abbrev pub may_shut : Tunnel → Bool
may_shut t = is_done t.ways.up && not t.shut
