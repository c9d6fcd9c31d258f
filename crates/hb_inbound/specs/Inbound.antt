-- An inbound link as a machine: a front header, then a server's connection with tunnels on its streams.
use Rattle.std.specs.Prelude.{ℕ, ◌+◌, ◌==◌, if◌then◌else◌, List, [], ◌++◌, Option, Some, None}
use Rattle.hb_base.specs.declared.cause.Cause.{Cause}
use Rattle.hb_base.specs.declared.cause.Cause.TheVariants as cause
use Rattle.hb_base.specs.declared.ip.Ip.{Ip}
use Rattle.hb_base.specs.declared.ip.Ip.TheVariants.{V4}
use Rattle.hb_base.specs.declared.identity.Identity.{Identity}
use Rattle.hb_base.specs.declared.peer.Peer.{Peer}
use Rattle.hb_conn.specs.Connection.{Connection, fresh_server, taken}
use Rattle.hb_conn.specs.Observed as connection
use Rattle.hb_conn.specs.Observed.{outgoing, frames_begun, streams_open, chunk_of}
use Rattle.hb_conn.specs.declared.found.Found.{Found}
use Rattle.hb_conn.specs.declared.found.Found.TheVariants as found
use Rattle.hb_front.specs.Reading.{Seen}
use Rattle.hb_held.specs.Held.{Resources}
use Rattle.hb_hpack.specs.declared.header.HeaderList.{HeaderList}
use Rattle.hb_outgoing.specs.Selected.{data_size}
use Rattle.hb_table.specs.Judgement.{judged}
use Rattle.hb_table.specs.declared.judgement.Judged.{Judged}
use Rattle.hb_table.specs.declared.judgement.Judged.TheVariants.{Admitted}
use Rattle.hb_inbound.specs.Tunnel.{Tunnel, no_tunnel, requested_with, takes_place, ends_for, came_up, peer_ended}

-- how far a link is
pub data Phase : Type 0 where
  unborn : Phase
  -- it was accepted just now: it is taken in or turned away
  arriving : Phase
  -- its front header isn't whole
  fronting : Phase
  -- it is an HTTP/2 connection
  serving : Phase
  -- a connection error of this code was told: what waits may be written once, and the link is to be closed
  faulted : (code : ℕ) → Phase
  -- it is to be closed for this cause
  closing : Cause → Phase
  closed : Phase

pub record Inbound : Type 0 where
  pub phase : Phase
  -- the bytes that came of its front header
  pub front : List ℕ
  -- what the header told: who the peer is, and which address it meant
  pub peer : Peer
  pub destination : Ip
  pub conn : Connection
  -- the tunnel on each stream
  pub tunnels : ℕ → Tunnel

-- before its birth
abbrev pub no_link : Inbound
no_link = record {
  phase = unborn;
  front = [];
  peer = record { ip = V4 0; identity = None };
  destination = V4 0;
  conn = fresh_server;
  tunnels = λ s. no_tunnel;
}

abbrev pub with_phase : Phase → Inbound → Inbound
with_phase phase x = record x { phase = phase }

-- each tunnel changes so, or the one on a stream
abbrev pub all_tunnels : (Tunnel → Tunnel) → Inbound → Inbound
all_tunnels change x = record x { tunnels = λ s. change (x.tunnels s) }

abbrev pub at_stream : ℕ → (Tunnel → Tunnel) → Inbound → Inbound
at_stream s change x = record x { tunnels = λ k. if k == s then change (x.tunnels k) else x.tunnels k }

-- the link ends for a cause, and each of its tunnels with it, for a cause of theirs
abbrev pub ends_with : Phase → Cause → Inbound → Inbound
ends_with phase cause x = all_tunnels (ends_for cause) (with_phase phase x)

-- the header is whole: it tells the peer and where to, and the bytes behind it are the connection's
abbrev pub fronted_by : Seen → Option Identity → List ℕ → Inbound → Inbound
fronted_by seen identity behind x = record x {
  phase = serving;
  front = [];
  peer = record { ip = seen.source.ip; identity = identity };
  destination = seen.destination.ip;
  conn = taken fresh_server behind;
}

-- bytes came
abbrev pub came_by : Phase → List ℕ → Inbound → Inbound
came_by fronting bytes x = record x { front = x.front ++ bytes }
came_by serving bytes x = record x { conn = taken x.conn bytes }
came_by _ bytes x = x

abbrev pub came : List ℕ → Inbound → Inbound
came bytes x = came_by x.phase bytes x

-- bytes went: DATA frames begin; behind a connection error that was the one write
abbrev pub went_by : Phase → Phase
went_by (faulted code) = closing (cause.ConnFault code)
went_by phase = phase

abbrev pub with_begun : ℕ → Connection → ℕ → Tunnel → Tunnel
with_begun n c s t = record t { went_down = t.went_down + data_size (Some s) (frames_begun n c) }

abbrev pub went : ℕ → Inbound → Inbound
went n x = record x {
  phase = went_by x.phase;
  conn = connection.wrote x.conn n;
  tunnels = λ s. with_begun n x.conn s (x.tunnels s);
}

-- the peer sends no more: an unwhole header is at fault; a connection is done where no stream is open
abbrev pub ended_by : Phase → Inbound → Inbound
ended_by fronting x = with_phase (closing (cause.FrontFault 0)) x
ended_by serving x =
    ends_with (closing (if streams_open x.conn == 0 then cause.Done else cause.PeerGone)) cause.PeerGone x
ended_by _ x = x

abbrev pub link_ended : Inbound → Inbound
link_ended x = ended_by x.phase x

-- it broke; behind a connection error that was its one write
abbrev pub broken_by : Phase → Inbound → Inbound
broken_by fronting x = with_phase (closing cause.Broken) x
broken_by serving x = ends_with (closing cause.Broken) cause.PeerGone x
broken_by (faulted code) x = with_phase (closing (cause.ConnFault code)) x
broken_by _ x = x

abbrev pub link_broke : Inbound → Inbound
link_broke x = broken_by x.phase x

-- what is told of the frames that came: a request with these headers, bytes of a stream, the end of its peer's side, its reset by
-- the peer, an error of it, an error of the connection
abbrev pub told_of : Found → HeaderList → List ℕ → Inbound → Inbound
told_of (found.Opened s end) headers bytes x = at_stream s (λ t. requested_with headers end) x
told_of (found.Chunk s end) headers bytes x = at_stream s (came_up bytes) x
told_of (found.Ended s) headers bytes x = at_stream s peer_ended x
told_of (found.Reset s code) headers bytes x = at_stream s (ends_for (cause.PeerReset code)) x
told_of (found.Broken s code) headers bytes x = at_stream s (ends_for (cause.StreamFault code)) x
told_of (found.Fault code) headers bytes x = ends_with (faulted code) (cause.ConnFault code) x
told_of _ headers bytes x = x

abbrev pub on_found : Found → HeaderList → Connection → Inbound → Inbound
on_found told headers conn x = told_of told headers (chunk_of conn told) (record x { conn = conn })

-- an update: each tunnel that is pending or live, and that is no longer admitted, ends
abbrev pub judged_by : Judged → Tunnel → Tunnel
judged_by Admitted t = t
judged_by _ t = ends_for cause.Revoked t

abbrev pub rejudged : Resources → Inbound → Inbound
rejudged held x = all_tunnels (λ t. if takes_place t.stage then judged_by (judged held x.peer t.target) t else t) x

-- memory is wanting for the link itself: it ends, and its tunnels with it
abbrev pub lacking : Inbound → Inbound
lacking x = ends_with (closing cause.NoMemory) cause.NoMemory x

-- the run ends: every link is closed that isn't to be closed already
abbrev pub stops_by : Cause → Phase → Phase
stops_by cause unborn = unborn
stops_by cause closed = closed
stops_by cause (closing why) = closing why
stops_by cause (faulted code) = faulted code
stops_by cause phase = closing cause

abbrev pub stopped_for : Cause → Inbound → Inbound
stopped_for cause x = ends_with (stops_by cause x.phase) cause x
