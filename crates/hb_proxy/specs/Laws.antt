-- What every run of the whole proxy obeys.
use Rattle.std.specs.Prelude.{◌≡◌, ℕ, List, []}
use Rattle.hb_captured.specs.Access as plain_access
use Rattle.hb_captured.specs.Ends as plain_ends
use Rattle.hb_captured.specs.Notes as plain_notes
use Rattle.hb_captured.specs.Part as captured
use Rattle.hb_captured.specs.Relay as plain_relay
use Rattle.hb_captured.specs.Runs as plain
use Rattle.hb_captured.specs.Settled as plain_settled
use Rattle.hb_captured.specs.Sides as plain_sides
use Rattle.hb_captured.specs.Verdicts as plain_verdicts
use Rattle.hb_gateway.specs.Asks.{AskLaw}
use Rattle.hb_gateway.specs.Connections as gateway_connections
use Rattle.hb_gateway.specs.Connections.{IsOneHistory}
use Rattle.hb_gateway.specs.Part as gateway_part
use Rattle.hb_gateway.specs.Runs as gateway
use Rattle.hb_gateway.specs.Sides.{BringLaw, SendLaw, CountLaw}
use Rattle.hb_held.specs.Held.{Resources}
use Rattle.hb_inbound.specs.Closes.{CloseLaw}
use Rattle.hb_inbound.specs.Connections.{ConnectionLaw, WindowLaw}
use Rattle.hb_inbound.specs.Dials as inbound_dials
use Rattle.hb_inbound.specs.Ends as inbound_ends
use Rattle.hb_inbound.specs.Notes.{NoteLaw}
use Rattle.hb_inbound.specs.Part.{Part}
use Rattle.hb_inbound.specs.Rings.{RingLaw}
use Rattle.hb_inbound.specs.Runs as inbound
use Rattle.hb_inbound.specs.Sides as inbound_sides
use Rattle.hb_inbound.specs.Verdicts.{VerdictLaw}
use Rattle.hb_conn.specs.Observed.{output}
use Rattle.hb_model.specs.Discovery.{live}
use Rattle.hb_model.specs.Messages as messages
use Rattle.hb_model.specs.Puts.{IsAllPut}
use Rattle.hb_model.specs.Runs as model
use Rattle.hb_model.specs.declared.config.NodeConfig.{NodeConfig}
use Rattle.hb_proxy.specs.Access.{AccessLaw, EntryLaw}
use Rattle.hb_proxy.specs.Control.{EntryLaws, ControlLaws}
use Rattle.hb_proxy.specs.Dials.{DialLaw}
use Rattle.hb_proxy.specs.Ends.{EndLaw}
use Rattle.hb_proxy.specs.Held.{at_start}
use Rattle.hb_proxy.specs.Machine.{Machine, local, plain_local}
use Rattle.hb_proxy.specs.Owners.{OwnLaw, NumberLaw, UpstreamLaw}
use Rattle.hb_proxy.specs.Points.{Point, entries, control_of, parts_of, plain_of, gates_of}
use Rattle.hb_proxy.specs.Relay.{RelayLaw}
use Rattle.hb_proxy.specs.Runs.{StandsFor}
use Rattle.hb_proxy.specs.Sides.{SideLaw}
use Rattle.hb_proxy.specs.Streams.{PoolLaw}

-- THE PARTS

-- the control plane's points are a run of its machine, each inbound link's parts one of the link's, with what that holds, and each plain
-- link's parts one of that
abbrev pub ControlRuns : Type 0
ControlRuns = (g : NodeConfig) (x : Machine) (points : List Point) → StandsFor g x points
    → model.StandsFor g x.control (control_of points)

abbrev pub LinksRun : Type 0
LinksRun = (g : NodeConfig) (x : Machine) (points : List Point) (l : ℕ) → StandsFor g x points
    → inbound.StandsFor l (at_start g) (local x l) (parts_of l points)

abbrev pub PlainRuns : Type 0
PlainRuns = (g : NodeConfig) (x : Machine) (points : List Point) (l : ℕ) → StandsFor g x points
    → plain.StandsFor l (at_start g) (plain_local x l) (plain_of l points)

abbrev pub GatesRun : Type 0
GatesRun = (g : NodeConfig) (x : Machine) (points : List Point) (n : ℕ) → StandsFor g x points
    → gateway.StandsFor n (x.gates n) (gates_of n points)

-- so what is held, by the control plane and at each link, is what the control plane's responses make
abbrev pub ControlHolds : Type 0
ControlHolds = (g : NodeConfig) (x : Machine) (points : List Point) → StandsFor g x points
    → x.control.held ≡ messages.held g (control_of points)

abbrev pub LinksHold : Type 0
LinksHold = (g : NodeConfig) (x : Machine) (points : List Point) (l : ℕ) → StandsFor g x points
    → inbound_sides.held (at_start g) (parts_of l points) ≡ messages.held g (control_of points)

abbrev pub PlainHolds : Type 0
PlainHolds = (g : NodeConfig) (x : Machine) (points : List Point) (l : ℕ) → StandsFor g x points
    → plain_sides.held (at_start g) (plain_of l points) ≡ messages.held g (control_of points)

-- WHOSE A LINK IS

-- each entry stands on a link of its own part, links are numbered in the order of births, each upstream is of a stream of its own
abbrev pub RunsOwn : Type 0
RunsOwn = (g : NodeConfig) (x : Machine) (points : List Point) → StandsFor g x points → OwnLaw points

abbrev pub RunsNumber : Type 0
RunsNumber = (g : NodeConfig) (x : Machine) (points : List Point) → StandsFor g x points → NumberLaw (entries points)

abbrev pub RunsDialOnce : Type 0
RunsDialOnce = (g : NodeConfig) (x : Machine) (points : List Point) → StandsFor g x points → UpstreamLaw (entries points)

-- so the bytes of a link are the same in the trace and in its part
abbrev pub RunsShareSides : Type 0
RunsShareSides = (g : NodeConfig) (x : Machine) (points : List Point) → StandsFor g x points → SideLaw points

-- WHAT IS SAID OF INBOUND LINKS

abbrev pub RunsAdmit : Type 0
RunsAdmit = (g : NodeConfig) (x : Machine) (points : List Point) → StandsFor g x points → AccessLaw g points

abbrev pub RunsAdmitEntries : Type 0
RunsAdmitEntries = (g : NodeConfig) (x : Machine) (points : List Point) → StandsFor g x points → EntryLaw g points

abbrev pub RunsRelay : Type 0
RunsRelay = (g : NodeConfig) (x : Machine) (points : List Point) → StandsFor g x points → RelayLaw points

abbrev pub RunsEnd : Type 0
RunsEnd = (g : NodeConfig) (x : Machine) (points : List Point) → StandsFor g x points → EndLaw g points

-- the laws of one inbound link
pub record LinkLaws (start : Resources) (l : ℕ) (parts : List Part) : Type 0 where
  pub connection : ConnectionLaw parts
  pub windows : WindowLaw parts
  pub rings : RingLaw parts
  pub ends : inbound_ends.EndLaw start parts
  pub closes : CloseLaw parts
  pub verdicts : VerdictLaw start parts
  pub dials : inbound_dials.DialLaw start parts
  pub notes : NoteLaw start l parts

abbrev pub RunsObeyLinks : Type 0
RunsObeyLinks = (g : NodeConfig) (x : Machine) (points : List Point) (l : ℕ) → StandsFor g x points
    → LinkLaws (at_start g) l (parts_of l points)

-- and of a plain one
pub record PlainLaws (start : Resources) (l : ℕ) (parts : List captured.Part) : Type 0 where
  pub relay : plain_relay.RelayLaw start parts
  pub access : plain_access.AccessLaw start parts
  pub ends : plain_ends.EndLaw l start parts
  pub verdicts : plain_verdicts.VerdictLaw l start parts
  pub notes : plain_notes.NoteLaw start l parts
  pub settled : plain_settled.SettledLaw start parts

abbrev pub RunsObeyPlain : Type 0
RunsObeyPlain = (g : NodeConfig) (x : Machine) (points : List Point) (l : ℕ) → StandsFor g x points
    → PlainLaws (at_start g) l (plain_of l points)

-- and of a link to a gateway
pub record GateLaws (parts : List gateway_part.Part) : Type 0 where
  pub connection : IsOneHistory parts
  pub windows : gateway_connections.WindowLaw parts
  pub asks : AskLaw parts
  pub brings : BringLaw parts
  pub sends : SendLaw parts
  pub counts : CountLaw parts

abbrev pub RunsObeyGates : Type 0
RunsObeyGates = (g : NodeConfig) (x : Machine) (points : List Point) (n : ℕ) → StandsFor g x points → GateLaws (gates_of n points)

-- which of these a tunnel takes
abbrev pub RunsTake : Type 0
RunsTake = (g : NodeConfig) (x : Machine) (points : List Point) → StandsFor g x points → PoolLaw g points

-- WHAT IS SAID OF THE CONTROL PLANE

-- it is dialled exactly when it is due
abbrev pub RunsDial : Type 0
RunsDial = (g : NodeConfig) (x : Machine) (points : List Point) → StandsFor g x points → DialLaw g points

-- at each entry of the trace, of whatever part
abbrev pub RunsObeyEntries : Type 0
RunsObeyEntries = (g : NodeConfig) (x : Machine) (points : List Point) → StandsFor g x points → EntryLaws points

-- and of its own points
abbrev pub RunsObeyControl : Type 0
RunsObeyControl = (g : NodeConfig) (x : Machine) (points : List Point) → StandsFor g x points → ControlLaws g (control_of points)

-- where nothing waits on a link to it that lives, and nothing more happens on it by itself, all is put
abbrev pub RunsPutAll : Type 0
RunsPutAll = (g : NodeConfig) (x : Machine) (points : List Point) (l : ℕ) → StandsFor g x points → (x.control.links l).phase ≡ live
    → model.IsCalm (x.control.links l) → output (x.control.links l).conn ≡ [] → IsAllPut g (control_of points) l
