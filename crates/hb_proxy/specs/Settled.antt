-- The settled law: at a wait nothing is left to be done but what sleeps.
use Rattle.std.specs.Prelude.{⊤, ◌≡◌, ◌⊎◌, ℕ, ◌<◌, ◌≤◌, Bool, true, false, List, [], length}
use Rattle.hb_base.specs.declared.door.Door.{Door}
use Rattle.hb_captured.specs.Calm as plain_calm
use Rattle.hb_captured.specs.Captured as plain
use Rattle.hb_captured.specs.Captured.{Captured}
use Rattle.hb_conn.specs.Connection.{Connection}
use Rattle.hb_conn.specs.Observed as connection
use Rattle.hb_gateway.specs.Gateway as gateway
use Rattle.hb_gateway.specs.Gateway.{Gateway}
use Rattle.hb_front.specs.Room.{longest_front}
use Rattle.hb_inbound.specs.Calm.{IsQuiet}
use Rattle.hb_inbound.specs.Inbound as link
use Rattle.hb_inbound.specs.Inbound.{Inbound}
use Rattle.hb_inbound.specs.Tunnel.{Tunnel, Stage, opening, live}
use Rattle.hb_model.specs.Discovery as discovery
use Rattle.hb_model.specs.Discovery.{Discovery}
use Rattle.hb_model.specs.Puts.{IsAllPut}
use Rattle.hb_model.specs.Runs as model
use Rattle.hb_model.specs.declared.config.NodeConfig.{NodeConfig}
use Rattle.hb_ready.specs.Sight.{asked, asleep, has_ended, is_open}
use Rattle.hb_tunnel.specs.Tunnel.{down_size}
use Rattle.hb_world.specs.Trace.{AtEach, is_waited, lives}
use Rattle.hb_world.specs.declared.entry.Entry.{Entry}
use Rattle.hb_world.specs.declared.entry.Entry.TheVariants as e
use Rattle.hb_world.specs.declared.entry.Way.TheVariants as way
use Rattle.hb_proxy.specs.Doors.{without_doors}
use Rattle.hb_proxy.specs.Machine.{Machine}
use Rattle.hb_proxy.specs.Points.{Point, control_of, entries}
use Rattle.hb_proxy.specs.Runs.{GatesLet, StandsFor}
use Rattle.hb_proxy.specs.Ups.{Joins, IsRelayOf}
use Rattle.hb_tunnel.specs.Way.{Way}

-- WHAT SLEEPS

-- a link is asleep for reading, or there is no room for more; and it is asleep for writing, or nothing waits to be written on it
abbrev pub Reads : List Entry → ℕ → (full : Type 0) → Type 0
Reads trace l full = (asleep (way.Read l) trace ≡ true) ⊎ full

abbrev pub Writes : List Entry → ℕ → (none : Type 0) → Type 0
Writes trace l none = (asleep (way.Write l) trace ≡ true) ⊎ none

abbrev pub Finishes : List Entry → ℕ → Type 0
Finishes trace l = asleep (way.Finish l) trace ≡ true

-- a link whose peer sends no more is asleep for looks: it was looked at since a wait named it
abbrev pub Looks : List Entry → ℕ → Type 0
Looks trace l = (has_ended l trace ≡ false) ⊎ (asleep (way.Look l) trace ≡ true)

-- the output of a connection has room for fewer than 768 octets more
abbrev pub IsCrowded : Connection → Type 0
IsCrowded c = connection.room c < 768

-- a way takes no more: it has ended, or its ring is full
abbrev pub IsFull : (size : ℕ) → Way → Type 0
IsFull size w = (w.has_ended ≡ true) ⊎ (size ≤ length w.held)

-- an upstream has ended, or its ring is full
abbrev pub TakesNoMore : Tunnel → Type 0
TakesNoMore t = IsFull down_size t.ways.down

-- EACH LINK THAT IS THERE

-- a link to the control plane that isn't open is asleep for finishing; behind one that is asleep for writing more may be due; else all
-- that is due was put: answers, requests that the windows let go, and credit
abbrev pub ControlSettledBy : NodeConfig → List Point → discovery.Phase → List Entry → ℕ → Discovery → Type 0
ControlSettledBy g points discovery.unborn trace l x = ⊤
ControlSettledBy g points discovery.closed trace l x = ⊤
ControlSettledBy g points discovery.dialling trace l x = Finishes trace l
ControlSettledBy g points discovery.live trace l x =
    Reads trace l (IsCrowded x.conn) × Writes trace l (connection.output x.conn ≡ [])
    × Writes trace l (IsAllPut g (control_of points) l)
ControlSettledBy g points phase trace l x = ⊥

-- An inbound link is read until its front header is whole. One that serves has put, of each tunnel, all that its windows and its output
-- let go (that is what being quiet says), and what it put went, or it is asleep for writing
abbrev pub LinkSettledBy : link.Phase → List Entry → ℕ → Inbound → Type 0
LinkSettledBy link.unborn trace l x = ⊤
LinkSettledBy link.closed trace l x = ⊤
LinkSettledBy link.fronting trace l x = Reads trace l (longest_front ≤ length x.front)
LinkSettledBy link.serving trace l x = Reads trace l (IsCrowded x.conn) × Writes trace l (connection.output x.conn ≡ [])
LinkSettledBy phase trace l x = ⊥

-- the upstream of a tunnel that is to be open is asleep for finishing; of one that lives all went that came, or it is asleep for writing
abbrev pub UpSettledBy : Stage → List Entry → ℕ → Tunnel → Type 0
UpSettledBy opening trace u t = Finishes trace u
UpSettledBy live trace u t = Reads trace u (TakesNoMore t) × Writes trace u (t.ways.up.held ≡ [])
UpSettledBy stage trace u t = ⊥

-- A plain link is read until its front header is whole, and then as long as its peer sends and there is room, also while its
-- upstream isn't open; what came of the upstream went, or it is asleep for writing
abbrev pub PlainSettledBy : plain.Stage → (closed : Bool) → List Entry → ℕ → Captured → Type 0
PlainSettledBy plain.unborn closed trace l x = ⊤
PlainSettledBy plain.fronting closed trace l x = Reads trace l (longest_front ≤ length x.front)
PlainSettledBy plain.opening closed trace l x = Reads trace l (IsFull (plain.ring_up x.door) x.ways.up)
PlainSettledBy plain.live closed trace l x =
    Reads trace l (IsFull (plain.ring_up x.door) x.ways.up) × Writes trace l (x.ways.down.held ≡ [])
PlainSettledBy (plain.over cause) closed trace l x = closed ≡ true
PlainSettledBy stage closed trace l x = ⊥

-- and its upstream
abbrev pub RelaySettledBy : plain.Stage → List Entry → ℕ → Captured → Type 0
RelaySettledBy plain.opening trace u x = Finishes trace u
RelaySettledBy plain.live trace u x = Reads trace u (IsFull (plain.ring_down x.door) x.ways.down) × Writes trace u (x.ways.up.held ≡ [])
RelaySettledBy stage trace u x = ⊥

-- a link to a gateway that isn't open is asleep for finishing; of one that is open what was put went, or it is asleep for writing
abbrev pub GateSettledBy : gateway.Phase → List Entry → ℕ → Gateway → Type 0
GateSettledBy gateway.unborn trace g x = ⊤
GateSettledBy gateway.closed trace g x = ⊤
GateSettledBy gateway.opening trace g x = Finishes trace g
GateSettledBy gateway.serving trace g x = Reads trace g (IsCrowded x.conn) × Writes trace g (gateway.output x ≡ [])
GateSettledBy phase trace g x = ⊥

-- THE LAW

-- Nothing more happens by itself on any link, and no call is due: no dial, no shut and no close. No accept may give a link at a door.
-- Each link that is there rests; and none that is open broke unseen
pub record IsSettled (g : NodeConfig) (x : Machine) (points : List Point) (trace : List Entry) : Type 0 where
  pub control_quiet : model.IsQuiet x.control
  pub links_quiet : (l : ℕ) → IsQuiet (x.inbound l)
  pub doors : (d : Door) → asked d trace ≡ false
  pub control : (l : ℕ) → ControlSettledBy g points (x.control.links l).phase trace l (x.control.links l)
  pub links : (l : ℕ) → LinkSettledBy (x.inbound l).phase trace l (x.inbound l)
  pub ups : (l s u : ℕ) → Joins ((x.inbound l).tunnels s) u
      → UpSettledBy ((x.inbound l).tunnels s).stage trace u ((x.inbound l).tunnels s)
  pub plain_quiet : (l : ℕ) → plain_calm.IsQuiet (x.plain l)
  pub plain : (l : ℕ) → PlainSettledBy (x.plain l).stage (x.plain l).closed trace l (x.plain l)
  pub relays : (l u : ℕ) → IsRelayOf (x.plain l) u → RelaySettledBy (x.plain l).stage trace u (x.plain l)
  pub gates_quiet : GatesLet false x
  pub gates : (g : ℕ) → GateSettledBy (x.gates g).phase trace g (x.gates g)
  pub looks : (l : ℕ) → lives l trace ≡ true → is_open l trace ≡ true → Looks trace l

-- so it is in a run of the machine with these entries
pub record SettledIn (g : NodeConfig) (trace : List Entry) : Type 0 where
  pub machine : Machine
  pub points : List Point
  pub run : StandsFor g machine points
  pub trace_is : without_doors trace ≡ entries points
  pub settled : IsSettled g machine points trace

abbrev pub SettledAt : NodeConfig → List Entry → Entry → Type 0
SettledAt g before (e.Wait ready how) = is_waited how ≡ true → SettledIn g before
SettledAt g before _ = ⊤

-- at each wait, and at no glance
abbrev pub SettledLaw : NodeConfig → List Entry → Type 0
SettledLaw g trace = AtEach (SettledAt g) trace
