-- A captured link as a machine, of the plain door or of the outbound one: a front header, then raw bytes both ways between it and its
-- upstream, or a stream of a link to a gateway. The link and its one tunnel are one thing: the tunnel is there from the link's birth; where
-- it ends the link is closed, and so is its upstream, or the stream is given up.
use Rattle.std.specs.Prelude.{ℕ, ◌+◌, ◌==◌, if◌then◌else◌, Bool, true, false, ◌&&◌, not, List, [], ◌++◌, length, drop, Option, None}
use Rattle.hb_base.specs.declared.cause.Cause.{Cause}
use Rattle.hb_base.specs.declared.cause.Cause.TheVariants as cause
use Rattle.hb_base.specs.declared.door.Door.{Door}
use Rattle.hb_base.specs.declared.door.Door.TheVariants as door
use Rattle.hb_base.specs.declared.identity.Identity.{Identity}
use Rattle.hb_base.specs.declared.ip.Ip.TheVariants.{V4}
use Rattle.hb_base.specs.declared.peer.Peer.{Peer}
use Rattle.hb_base.specs.declared.target.Target.{Target}
use Rattle.hb_front.specs.Reading.{Seen}
use Rattle.hb_gateway.specs.Response as response
use Rattle.hb_gateway.specs.Response.{Heard, opens, brings, fails}
use Rattle.hb_held.specs.Held.{Resources}
use Rattle.hb_inbound.specs.Sides.{identity_told}
use Rattle.hb_table.specs.Judgement.{judged}
use Rattle.hb_table.specs.declared.judgement.Judged.{Judged}
use Rattle.hb_table.specs.declared.judgement.Judged.TheVariants.{Admitted}
use Rattle.hb_tunnel.specs.Tunnel.{Ways, dialling, up_size, down_size}
use Rattle.hb_tunnel.specs.Way.{Way, after, pushes, takes, ends, is_done}
use Rattle.hb_world.specs.declared.entry.Entry.{Entry}
use Rattle.hb_world.specs.declared.entry.Entry.TheVariants as e
use Rattle.hb_captured.specs.Answer.{Aim, straight_to, endpoint_of}

-- how far it is
pub data Stage : Type 0 where
  unborn : Stage
  -- it was accepted just now: it is taken in or turned away
  arriving : Stage
  -- its front header isn't whole
  fronting : Stage
  -- PENDING: its destination is to be dialled, or a stream is to be asked for; it is dialled, or asked for, and not open yet; it is open,
  -- which is to be noted
  due : Stage
  opening : Stage
  accepting : Stage
  -- LIVE: bytes come and go
  live : Stage
  -- it ended for this cause while it was pending, or while it was live: that is to be noted
  failed : Cause → Stage
  ended : Cause → Stage
  -- nothing more is noted of it: its links are to be closed for this cause
  over : Cause → Stage

pub record Captured : Type 0 where
  -- the door at which it was accepted
  pub door : Door
  pub stage : Stage
  -- the bytes that came of its front header
  pub front : List ℕ
  -- what the header told: who the peer is, without an identity, and where to
  pub peer : Peer
  pub target : Target
  -- the identity that the note of its verdict tells beside that; none once it is noted
  pub identity : Option Identity
  -- where its bytes are to go
  pub aim : Aim
  -- the number of its upstream, 0 before that is dialled and behind its close
  pub up : ℕ
  -- its stream, of the link to a gateway of this number, which is 0 before one is asked for and once the stream is left
  pub gate : ℕ
  pub stream : ℕ
  -- the bytes that wait on each way, and which way has ended: up, from the link to its upstream, by the link's end; down, by the upstream's
  pub ways : Ways
  -- the bytes written to the link that weren't given back to its stream's window
  pub owed : ℕ
  -- all bytes that were written to the upstream, and to the link; of a stream those that have begun to go when it is left
  pub went_up : ℕ
  pub went_down : ℕ
  -- nothing more is written to the upstream, or put on the stream; nor written to the link
  pub up_shut : Bool
  pub shut : Bool
  -- the link is closed
  pub closed : Bool

-- before its birth
abbrev pub no_link : Captured
no_link = record {
  door = door.Plain;
  stage = unborn;
  front = [];
  peer = record { ip = V4 0; identity = None };
  target = record { ip = V4 0; port = 0 };
  identity = None;
  aim = straight_to (record { ip = V4 0; port = 0 }) None;
  up = 0;
  gate = 0;
  stream = 0;
  ways = dialling;
  owed = 0;
  went_up = 0;
  went_down = 0;
  up_shut = false;
  shut = false;
  closed = false;
}

abbrev pub at_stage : Stage → Captured → Captured
at_stage stage x = record x { stage = stage }

-- peers are judged at the plain door; who goes out by the outbound one isn't
abbrev pub judges : Door → Bool
judges door.Outbound = false
judges _ = true

-- how many bytes can wait on each way: a stream of an HTTP/2 connection may bring a window's (RFC 9113 section 6.9.2), so out of the
-- outbound door the way to the link is the long one, as at the others the way from it is
abbrev pub ring_up : Door → ℕ
ring_up door.Outbound = down_size
ring_up _ = up_size

abbrev pub ring_down : Door → ℕ
ring_down door.Outbound = up_size
ring_down _ = down_size

-- it has a tunnel that may be judged: it is pending, its header whole, or live
abbrev pub is_judged : Stage → Bool
is_judged due = true
is_judged opening = true
is_judged accepting = true
is_judged live = true
is_judged _ = false

-- the endpoint to which it counts as a connection: so long it does
abbrev pub counts_for : Captured → Option (List ℕ)
counts_for x = if is_judged x.stage then endpoint_of x.aim else None

-- it has no stream of a link to a gateway
abbrev pub is_raw : Captured → Bool
is_raw x = x.gate == 0

-- the end of it; the first one counts
abbrev pub ends_by : Cause → Stage → Stage
ends_by cause arriving = over cause
ends_by cause fronting = over cause
ends_by cause due = failed cause
ends_by cause opening = failed cause
ends_by cause accepting = failed cause
ends_by cause live = ended cause
ends_by cause stage = stage

abbrev pub ends_for : Cause → Captured → Captured
ends_for cause x = at_stage (ends_by cause x.stage) x

-- THE FRONT HEADER

-- the peer of a front header, as it is judged: an identity that it tells isn't used
abbrev pub peer_in : Seen → Peer
peer_in seen = record { ip = seen.source.ip; identity = None }

-- the peer that is noted: out of the outbound door, where none is judged, with the identity that the header tells
abbrev pub identity_noted : Door → Option (List ℕ) → Option Identity
identity_noted door.Outbound text = identity_told text
identity_noted _ text = None

abbrev pub peer_noted : Door → Seen → Peer
peer_noted door seen = record { ip = seen.source.ip; identity = identity_noted door seen.identity }

-- the same of a link, and the link once it is noted
abbrev pub named : Captured → Peer
named x = record x.peer { identity = x.identity }

abbrev pub unnamed : Captured → Captured
unnamed x = record x { identity = None }

-- it is whole: it tells the peer and where to, for which the bytes behind it are to go there
abbrev pub fronted_by : Seen → Aim → Stage → Captured → Captured
fronted_by seen aim stage x = record x {
  stage = stage;
  front = [];
  peer = peer_in seen;
  target = seen.destination;
  identity = identity_noted x.door seen.identity;
  aim = aim;
  ways = record x.ways { up = after x.ways.up (pushes (drop seen.length x.front)) };
}

-- ENTRIES

-- bytes came of the link: of its front header, or such as go up
abbrev pub came_by : Stage → List ℕ → Captured → Captured
came_by fronting bytes x = record x { front = x.front ++ bytes }
came_by stage bytes x = record x { ways = record x.ways { up = after x.ways.up (pushes bytes) } }

-- the link sends no more: an unwhole header is at fault
abbrev pub hung_up : Stage → Stage
hung_up fronting = over (cause.FrontFault 0)
hung_up stage = stage

-- what an entry of the link makes of it
abbrev pub entered : Entry → Captured → Captured
entered (e.Accepted l d) x = record x { door = d; stage = arriving }
entered (e.Came l bytes) x = came_by x.stage bytes x
entered (e.Ended l) x = record x { stage = hung_up x.stage; ways = record x.ways { up = after x.ways.up ends } }
entered (e.Went l bytes) x = record x {
  ways = record x.ways { down = after x.ways.down (takes (length bytes)) };
  owed = if is_raw x then x.owed else x.owed + length bytes;
  went_down = x.went_down + length bytes;
}
entered (e.Broke l) x = ends_for cause.PeerGone x
entered (e.Shut l) x = record x { shut = true }
entered (e.Closed l why) x = record x { closed = true }
entered _ x = x

-- and one of its upstream
abbrev pub up_entered : Entry → Captured → Captured
up_entered (e.Dialled u to why) x = record x { stage = opening; up = u }
up_entered (e.DialFailed to why) x = ends_for cause.UpFault x
up_entered (e.Opened u) x = record x { stage = accepting; ways = record x.ways { is_open = true } }
up_entered (e.Came u bytes) x = record x { ways = record x.ways { down = after x.ways.down (pushes bytes) } }
up_entered (e.Ended u) x = record x { ways = record x.ways { down = after x.ways.down ends } }
up_entered (e.Went u bytes) x = record x {
  ways = record x.ways { up = after x.ways.up (takes (length bytes)) };
  went_up = x.went_up + length bytes;
}
up_entered (e.Broke u) x = ends_for cause.UpFault x
up_entered (e.Shut u) x = record x { up_shut = true }
up_entered (e.Closed u why) x = record x { up = 0 }
up_entered _ x = x

-- ON ITS STREAM

abbrev pub ends_if : Bool → Way → Way
ends_if true w = after w ends
ends_if false w = w

-- the stream is left, behind so many bytes that have begun to go
abbrev pub left_behind : ℕ → Captured → Captured
left_behind begun x = record x { gate = 0; stream = 0; went_up = begun }

-- what is heard on it
abbrev pub told_by : Heard → (begun : ℕ) → Captured → Captured
told_by (opens end) begun x =
    record x { stage = accepting; ways = record x.ways { is_open = true; down = ends_if end x.ways.down } }
told_by (brings bytes) begun x =
    record x { ways = record x.ways { down = after x.ways.down (pushes bytes) } }
told_by response.ends begun x = record x { ways = record x.ways { down = after x.ways.down ends } }
told_by (fails why) begun x = left_behind begun (ends_for why x)

-- BY ITSELF, AND BY OTHERS

-- its end is noted
abbrev pub left_by : Stage → Stage
left_by (failed cause) = over cause
left_by (ended cause) = over cause
left_by stage = stage

-- and with it who its peer is, where it was pending
abbrev pub name_left : Stage → Option Identity → Option Identity
name_left (failed cause) identity = None
name_left stage identity = identity

abbrev pub left_now : Captured → Captured
left_now x = record x { stage = left_by x.stage; identity = name_left x.stage x.identity }

-- an update: it ends where its peer is judged, and no longer admitted
abbrev pub judged_by : Judged → Captured → Captured
judged_by Admitted x = x
judged_by _ x = ends_for cause.Revoked x

abbrev pub rejudged : Resources → Captured → Captured
rejudged held x = if judges x.door && is_judged x.stage then judged_by (judged held x.peer x.target) x else x

-- the sending side of the upstream, or of the link, may be shut: the other one has ended, and all that came of it is written
abbrev pub may_shut_up : Captured → Bool
may_shut_up x = is_raw x && is_done x.ways.up && not x.up_shut

abbrev pub may_shut : Captured → Bool
may_shut x = is_done x.ways.down && not x.shut

-- both sides ended, and all went through
abbrev pub is_through : Captured → Bool
is_through x = is_done x.ways.up && is_done x.ways.down
