-- What holds of the trace of a run of the whole proxy.
use Rattle.std.specs.Prelude.{◌≡◌, ℕ, false, List, ◌++◌}
use Rattle.std.specs.List.{list_any}
use Rattle.hb_captured.specs.Sides as plain
use Rattle.hb_inbound.specs.Sides as inbound
use Rattle.hb_model.specs.Inner.{is_stop}
use Rattle.hb_model.specs.Messages as messages
use Rattle.hb_model.specs.declared.config.NodeConfig.{NodeConfig}
use Rattle.hb_proxy.specs.Access.{AccessLaw, EntryLaw}
use Rattle.hb_proxy.specs.Control.{EntryLaws, ControlLaws}
use Rattle.hb_proxy.specs.Dials.{DialLaw}
use Rattle.hb_proxy.specs.Doors.{without_doors}
use Rattle.hb_proxy.specs.Ends.{EndLaw}
use Rattle.hb_proxy.specs.Held.{at_start}
use Rattle.hb_proxy.specs.Laws.{LinkLaws, PlainLaws, GateLaws}
use Rattle.hb_proxy.specs.Limits.{LimitLaw}
use Rattle.hb_proxy.specs.Machine.{Machine}
use Rattle.hb_proxy.specs.Owners.{OwnLaw, NumberLaw, UpstreamLaw}
use Rattle.hb_proxy.specs.Points.{Point, entries, control_of, parts_of, plain_of, gates_of}
use Rattle.hb_proxy.specs.Relay.{RelayLaw}
use Rattle.hb_proxy.specs.Runs.{StandsFor}
use Rattle.hb_proxy.specs.Sides.{SideLaw}
use Rattle.hb_proxy.specs.Streams.{PoolLaw}
use Rattle.hb_world.specs.declared.entry.Entry.{Entry}
use Rattle.hb_laws.specs.Closes.{CloseLaw}
use Rattle.hb_laws.specs.Gateways.{GateDialLaw, HeaderLaw, OpenLaw}
use Rattle.hb_laws.specs.Routes.{RouteLaw, RingLaw}

-- what is held at an inbound link is what the control plane's responses make
abbrev pub LinkHolds : NodeConfig → ℕ → List Point → Type 0
LinkHolds g l points = inbound.held (at_start g) (parts_of l points) ≡ messages.held g (control_of points)

-- and so at a plain link
abbrev pub PlainHolds : NodeConfig → ℕ → List Point → Type 0
PlainHolds g l points = plain.held (at_start g) (plain_of l points) ≡ messages.held g (control_of points)

-- what is said behind some points of a run
pub record Laws (g : NodeConfig) (points : List Point) : Type 0 where
  -- no two upstreams are of one stream, or of one plain link; the bytes of a link are the same in the trace and in its part
  pub upstreams : UpstreamLaw (entries points)
  pub sides : SideLaw points
  -- what went to each side of a tunnel, or of a plain link, is a front of what came from the other
  pub relay : RelayLaw points
  -- the laws of each inbound link: its connection, windows, rings, ends, close, answers, dials and notes
  pub links : (l : ℕ) → LinkLaws (at_start g) l (parts_of l points)
  -- and of each plain one: its relay, access, ends, verdicts and notes, and that nothing is put off
  pub plain : (l : ℕ) → PlainLaws (at_start g) l (plain_of l points)
  -- what waits on each way of a plain link fits the ring of its door
  pub rings : (l : ℕ) → RingLaw (plain_of l points)
  -- and of each link to a gateway: its connection and windows, the streams that are asked for, the bytes that are brought, put and counted
  pub gates : (n : ℕ) → GateLaws (gates_of n points)
  -- it is closed for the first cause that ended it, and the headers of its looks at frames are those that its connection read
  pub gate_closes : (n : ℕ) → CloseLaw (gates_of n points)
  pub gate_headers : (n : ℕ) → HeaderLaw (gates_of n points)
  -- the laws of the links to the control plane: their calls, messages, connections, requests, frames and windows
  pub control : ControlLaws g (control_of points)
  pub held : (l : ℕ) → LinkHolds g l points
  pub plain_held : (l : ℕ) → PlainHolds g l points

-- what is said at each front of a run
abbrev pub AtFronts : (List Point → Type 0) → List Point → Type 0
AtFronts P points = (before after : List Point) → points ≡ before ++ after → P before

-- The entries of a trace, but for the calls at doors that gave no link, are those of a run of the whole proxy, with what it looked at and
-- did by itself between them, and obey each law
pub record Lawful (g : NodeConfig) (trace : List Entry) : Type 0 where
  pub machine : Machine
  pub points : List Point
  pub run : StandsFor g machine points
  pub trace_is : without_doors trace ≡ entries points
  -- each entry stands on a link of its own part; links are numbered in the order of births
  pub own : OwnLaw points
  pub numbers : NumberLaw (entries points)
  -- where peers are judged no byte goes to an upstream or on a plain link, and no DATA begins on an inbound link, unless what is held then
  -- admits the peer: by the link that the entry stands on, and by its part
  pub access : EntryLaw g points
  pub parts_access : AccessLaw g points
  -- a tunnel that ended has no upstream that isn't closed where more comes; a plain link that ended is closed there, with its upstream, and
  -- a link to a gateway that ended is closed
  pub ends : EndLaw g points
  -- a tunnel takes the link to its gateway that was born first of those with room, and another one is dialled only where there is none
  pub pool : PoolLaw g points
  -- a link to a gateway is dialled at the gateway of the key by which the way of its plain link leads; each way goes by the node's port and
  -- by how many connections each endpoint has then; a tunnel opens at a status from 200 to 299 and at nothing else
  pub gate_dials : GateDialLaw points
  pub routes : RouteLaw g points
  pub opens : OpenLaw points
  -- at each front of the run, never more links and tunnels than may be
  pub limits : AtFronts (LimitLaw g) points
  -- the control plane is dialled exactly when it is due; its links end for their first cause, and what came on them is looked at first
  pub dials : DialLaw g points
  pub at_entries : EntryLaws points
  -- what is held is what the control plane's responses make
  pub held : machine.control.held ≡ messages.held g (control_of points)
  -- and at each front of the run
  pub laws : AtFronts (Laws g) points

-- so they do, and nothing stopped the run: its dials of the control plane aren't exempt
pub record GoesOn (g : NodeConfig) (trace : List Entry) : Type 0 where
  pub lawful : Lawful g trace
  pub going : list_any is_stop (control_of lawful.points) ≡ false

-- so is the trace of every run of the whole
abbrev pub RunsAreLawful : Type 0
RunsAreLawful = (g : NodeConfig) (x : Machine) (points : List Point) (trace : List Entry) → StandsFor g x points
    → without_doors trace ≡ entries points → Lawful g trace
