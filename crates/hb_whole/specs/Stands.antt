-- The traces that the whole proxy stands for.
use Rattle.std.specs.Prelude.{⊤, ◌≡◌, ◌⊎◌, ℕ, true, false, List, ◌++◌, Option, Some, None}
use Rattle.hb_base.specs.declared.cause.Cause.{Cause}
use Rattle.hb_base.specs.declared.door.Why.{Why}
use Rattle.hb_base.specs.declared.door.Why.TheVariants as whys
use Rattle.hb_base.specs.declared.note.Note.{Note}
use Rattle.hb_base.specs.declared.target.Target.{Target}
use Rattle.hb_captured.specs.Answer.{address_of, why_for}
use Rattle.hb_captured.specs.Captured as plain
use Rattle.hb_captured.specs.Captured.{Captured}
use Rattle.hb_gateway.specs.Gateway as gateway
use Rattle.hb_held.specs.Held.{Resources}
use Rattle.hb_inbound.specs.Inbound as inbound
use Rattle.hb_inbound.specs.Inbound.{Inbound}
use Rattle.hb_inbound.specs.Tunnel as t
use Rattle.hb_proxy.specs.Notes.{notes as notes_of}
use Rattle.hb_links.specs.Load.{IsCounted}
use Rattle.hb_links.specs.Shows.{ShowsAll}
use Rattle.hb_model.specs.Discovery as discovery
use Rattle.hb_model.specs.declared.config.NodeConfig.{NodeConfig}
use Rattle.hb_node.specs.State.{Shows}
use Rattle.hb_proxy.specs.Doors.{without_doors}
use Rattle.hb_proxy.specs.Machine.{Machine, outward}
use Rattle.hb_proxy.specs.Points.{Point, entries}
use Rattle.hb_proxy.specs.Runs.{ControlRests, DialsGate, MayDialGate, StandsFor}
use Rattle.hb_relays.specs.Shows.{ShowsRelays}
use Rattle.hb_world.specs.declared.entry.Entry.{Entry}
use Rattle.hb_whole.specs.Queue.{told}
use Rattle.hb_whole.specs.declared.proxy.Proxy.{Proxy}

-- what the node is told of itself
abbrev pub config_of : Proxy → NodeConfig
config_of p = p.control.config

-- what it holds
abbrev pub held_of : Proxy → Resources
held_of p = p.control.held

-- all notes of a run are those that were taken, and those that wait; nothing is known once one was lost
abbrev pub AreNotes : List Note → Option (List Note) → List Point → Type 0
AreNotes taken None points = ⊤
AreNotes taken (Some waiting) points = notes_of points ≡ taken ++ waiting

-- a dial is due for a plain link, while the control plane rests
abbrev pub PlainDialIsDue : NodeConfig → Machine → Target → Why → ℕ → Type 0
PlainDialIsDue g x to why l =
    ControlRests x.control × (why ≡ why_for (x.plain l).aim (x.plain l).door l) × ((x.plain l).stage ≡ plain.due)
    × DialsGate x l × (to ≡ address_of (x.plain l).aim)

-- a dial is due: of the control plane; or, while that rests, of a tunnel's target, or for a plain link
abbrev pub DialIsDue : NodeConfig → Machine → Target → Why → Type 0
DialIsDue g x to whys.Discovery = (x.control.dials ≡ true) × (to ≡ g.discovery)
DialIsDue g x to (whys.Upstream l s) =
    ControlRests x.control × (((x.inbound l).tunnels s).stage ≡ t.due) × (to ≡ ((x.inbound l).tunnels s).target)
DialIsDue g x to (whys.Plain l) = PlainDialIsDue g x to (whys.Plain l) l
DialIsDue g x to (whys.Direct l) = PlainDialIsDue g x to (whys.Direct l) l
DialIsDue g x to (whys.Gateway l) = PlainDialIsDue g x to (whys.Gateway l) l

abbrev pub MayBeDialled : NodeConfig → Machine → Option (Target × Why) → Type 0
MayBeDialled g x None = ⊤
MayBeDialled g x (Some dial) = DialIsDue g x dial.0 dial.1

-- behind the end of the run, for a cause: a link is closed, or is to be for this cause; nothing is left of a tunnel, or its upstream is
-- to be closed for this cause
abbrev pub ControlEnds : Cause → discovery.Phase → Type 0
ControlEnds cause discovery.unborn = ⊤
ControlEnds cause discovery.closed = ⊤
ControlEnds cause (discovery.ending why) = why ≡ cause
ControlEnds cause _ = ⊥

abbrev pub LinkEnds : Cause → inbound.Phase → Type 0
LinkEnds cause inbound.unborn = ⊤
LinkEnds cause inbound.closed = ⊤
LinkEnds cause (inbound.closing why) = why ≡ cause
LinkEnds cause _ = ⊥

abbrev pub TunnelEnds : Cause → t.Stage → Type 0
TunnelEnds cause t.unasked = ⊤
TunnelEnds cause t.gone = ⊤
TunnelEnds cause (t.failed why) = why ≡ cause
TunnelEnds cause (t.ended why) = why ≡ cause
TunnelEnds cause (t.over why) = why ≡ cause
TunnelEnds cause _ = ⊥

-- a plain link is closed with its upstream, or both are to be for this cause
abbrev pub PlainEndsBy : Cause → plain.Stage → Captured → Type 0
PlainEndsBy cause plain.unborn x = ⊤
PlainEndsBy cause (plain.failed why) x = why ≡ cause
PlainEndsBy cause (plain.ended why) x = why ≡ cause
PlainEndsBy cause (plain.over why) x = (why ≡ cause) ⊎ ((x.closed ≡ true) × (x.up ≡ 0))
PlainEndsBy cause _ x = ⊥

abbrev pub PlainEnds : Cause → Captured → Type 0
PlainEnds cause x = PlainEndsBy cause x.stage x

-- a link to a gateway is closed, or is to be for this cause
abbrev pub GateEnds : Cause → gateway.Phase → Type 0
GateEnds cause gateway.unborn = ⊤
GateEnds cause gateway.closed = ⊤
GateEnds cause (gateway.closing why) = why ≡ cause
GateEnds cause _ = ⊥

pub record Ends (cause : Cause) (x : Machine) : Type 0 where
  pub control : (l : ℕ) → ControlEnds cause (x.control.links l).phase
  pub links : (l : ℕ) → LinkEnds cause (x.inbound l).phase
  pub tunnels : (l s : ℕ) → TunnelEnds cause ((x.inbound l).tunnels s).stage
  pub plain : (l : ℕ) → PlainEnds cause (x.plain l)
  pub gates : (n : ℕ) → GateEnds cause (x.gates n).phase

-- the run goes on, or has ended for a cause
abbrev pub EndsBy : Option Cause → Machine → Type 0
EndsBy None x = x.control.over ≡ false
EndsBy (Some cause) x = (x.control.over ≡ true) × Ends cause x

-- no two plain links wait for a dial; and for the one that waits for a link to its gateway there may be one link more
pub record WaitsAreFew (g : NodeConfig) (x : Machine) : Type 0 where
  pub one : (l k : ℕ) → (x.plain l).stage ≡ plain.due → (x.plain k).stage ≡ plain.due → l ≡ k
  pub room : (l : ℕ) → (x.plain l).stage ≡ plain.due → MayDialGate g x l

-- the code keeps the limits that it was told, and counts the tunnels of its inbound links
pub record IsLimited (p : Proxy) (x : Machine) : Type 0 where
  pub limits : p.limits ≡ p.control.config.limits
  pub counted : IsCounted p.side.links
  pub few : WaitsAreFew p.control.config x

-- The proxy stands for a trace, of whose notes these were taken: a run of the machine leads to one that the code shows, whose entries are
-- the trace but for the calls at doors that gave no link
pub record Stands (taken : List Note) (p : Proxy) (trace : List Entry) : Type 0 where
  pub machine : Machine
  pub points : List Point
  pub run : StandsFor p.control.config machine points
  pub trace_is : without_doors trace ≡ entries points
  pub control : Shows p.control machine.control
  pub links : ShowsAll p.side.links machine.inbound
  pub relays : ShowsRelays p.control.config p.side.relays (outward machine)
  pub noted : AreNotes taken (told p.side.notes) points
  pub dial : MayBeDialled p.control.config machine p.dials
  pub limited : IsLimited p machine
  pub ends : EndsBy p.ends_for machine
  pub sound : p.strange ≡ false
