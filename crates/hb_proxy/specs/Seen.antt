-- What the machine and the trace say of a link is the same: whether it lives, is open, and was shut.
use Rattle.std.specs.Prelude.{⊤, ◌≡◌, ◌≢◌, ◌⊎◌, ℕ, ◌<◌, Bool, true, false, List, Some}
use Rattle.hb_captured.specs.Captured as plain
use Rattle.hb_gateway.specs.Gateway as gateway
use Rattle.hb_inbound.specs.Inbound as inbound
use Rattle.hb_inbound.specs.Tunnel.{Stage, opening, accepting, live}
use Rattle.hb_model.specs.Discovery as discovery
use Rattle.hb_model.specs.declared.config.NodeConfig.{NodeConfig}
use Rattle.hb_ready.specs.Sight.{is_open}
use Rattle.hb_world.specs.Trace.{births, lives, was_shut}
use Rattle.hb_world.specs.declared.entry.Entry.{Entry}
use Rattle.hb_proxy.specs.Machine.{Machine}
use Rattle.hb_proxy.specs.Points.{Point, entries}
use Rattle.hb_proxy.specs.Runs.{StandsFor}
use Rattle.hb_proxy.specs.Ups.{Joins, IsRelayOf}

-- a link to the control plane, or an inbound link, is born and not closed
abbrev pub IsThere : discovery.Phase → Type 0
IsThere discovery.unborn = ⊥
IsThere discovery.closed = ⊥
IsThere phase = ⊤

abbrev pub IsLinkThere : inbound.Phase → Type 0
IsLinkThere inbound.unborn = ⊥
IsLinkThere inbound.closed = ⊥
IsLinkThere phase = ⊤

-- so is a plain link
abbrev pub IsPlainThereBy : plain.Stage → (closed : Bool) → Type 0
IsPlainThereBy plain.unborn closed = ⊥
IsPlainThereBy stage closed = closed ≡ false

abbrev pub IsPlainThere : plain.Captured → Type 0
IsPlainThere x = IsPlainThereBy x.stage x.closed

-- so is a link to a gateway
abbrev pub IsGateThere : gateway.Phase → Type 0
IsGateThere gateway.unborn = ⊥
IsGateThere gateway.closed = ⊥
IsGateThere phase = ⊤

abbrev pub GateOpenBy : gateway.Phase → Bool → Type 0
GateOpenBy gateway.opening opens = opens ≡ false
GateOpenBy gateway.serving opens = opens ≡ true
GateOpenBy (gateway.faulted code) opens = opens ≡ true
GateOpenBy phase opens = ⊤

-- Whether a link is open: one to the control plane, where it is dialled, where bytes may come and go, and behind a connection error;
-- and the upstream of a tunnel, or of a plain link, by how far that is
abbrev pub OpenBy : discovery.Phase → Bool → Type 0
OpenBy discovery.dialling opens = opens ≡ false
OpenBy discovery.live opens = opens ≡ true
OpenBy (discovery.faulted code) opens = opens ≡ true
OpenBy phase opens = ⊤

abbrev pub UpOpenBy : Stage → Bool → Type 0
UpOpenBy opening opens = opens ≡ false
UpOpenBy accepting opens = opens ≡ true
UpOpenBy live opens = opens ≡ true
UpOpenBy stage opens = ⊤

abbrev pub RelayOpenBy : plain.Stage → Bool → Type 0
RelayOpenBy plain.opening opens = opens ≡ false
RelayOpenBy plain.accepting opens = opens ≡ true
RelayOpenBy plain.live opens = opens ≡ true
RelayOpenBy stage opens = ⊤

-- the machine has a plain link of this number, or the upstream of one, that isn't closed
abbrev pub HasPlain : Machine → ℕ → Type 0
HasPlain x l = IsPlainThere (x.plain l) ⊎ ((k : ℕ) × IsRelayOf (x.plain k) l)

-- or one to the control plane, an inbound one, the upstream of a tunnel, or one to a gateway
abbrev pub HasLink : Machine → ℕ → Type 0
HasLink x l =
    IsThere (x.control.links l).phase
    ⊎ (IsLinkThere (x.inbound l).phase
    ⊎ (((k s : ℕ) × Joins ((x.inbound k).tunnels s) l) ⊎ (HasPlain x l ⊎ IsGateThere (x.gates l).phase)))

-- it never had one: no tunnel names the number
pub record IsFresh (x : Machine) (l : ℕ) : Type 0 where
  pub control : (x.control.links l).phase ≡ discovery.unborn
  pub link : (x.inbound l).phase ≡ inbound.unborn
  pub up : (k s : ℕ) → ((x.inbound k).tunnels s).up ≢ l
  pub plain : (x.plain l).stage ≡ plain.unborn
  pub relay : (k : ℕ) → (x.plain k).up ≢ l
  pub gate : (x.gates l).phase ≡ gateway.unborn

-- what is said of the plain links, and of their upstreams
pub record PlainSeen (x : Machine) (trace : List Entry) : Type 0 where
  -- a plain link that is there lives, is open, and was shut as it says
  pub link : (l : ℕ) → IsPlainThere (x.plain l) → (lives l trace ≡ true) × (is_open l trace ≡ true)
  pub link_shut : (l : ℕ) → IsPlainThere (x.plain l) → was_shut l trace ≡ (x.plain l).shut
  -- its upstream that isn't closed lives, was shut as the link says, and is open as far as the link is
  pub up : (l u : ℕ) → IsRelayOf (x.plain l) u
      → (lives u trace ≡ true) × (was_shut u trace ≡ (x.plain l).up_shut) × RelayOpenBy (x.plain l).stage (is_open u trace)
  pub no_zero : (x.plain 0).stage ≡ plain.unborn
  -- no other part has it, and no two have one upstream
  pub link_alone : (l : ℕ) → IsPlainThere (x.plain l)
      → (IsThere (x.control.links l).phase → ⊥) × (IsLinkThere (x.inbound l).phase → ⊥)
      × ((k s : ℕ) → Joins ((x.inbound k).tunnels s) l → ⊥)
  pub up_alone : (k u : ℕ) → IsRelayOf (x.plain k) u
      → (IsThere (x.control.links u).phase → ⊥) × (IsLinkThere (x.inbound u).phase → ⊥) × (IsPlainThere (x.plain u) → ⊥)
      × ((j s : ℕ) → Joins ((x.inbound j).tunnels s) u → ⊥)
  pub one_up : (j k u : ℕ) → IsRelayOf (x.plain j) u → IsRelayOf (x.plain k) u → j ≡ k

-- what is said of the links to gateways
pub record GatesSeen (x : Machine) (trace : List Entry) : Type 0 where
  -- one that is there lives, was never shut, and is open as far as it is
  pub link : (g : ℕ) → IsGateThere (x.gates g).phase → (lives g trace ≡ true) × (was_shut g trace ≡ false)
  pub link_open : (g : ℕ) → IsGateThere (x.gates g).phase → GateOpenBy (x.gates g).phase (is_open g trace)
  pub no_zero : (x.gates 0).phase ≡ gateway.unborn
  -- no other part has it
  pub alone : (g : ℕ) → IsGateThere (x.gates g).phase
      → (IsThere (x.control.links g).phase → ⊥) × (IsLinkThere (x.inbound g).phase → ⊥) × (IsPlainThere (x.plain g) → ⊥)
      × ((k s : ℕ) → Joins ((x.inbound k).tunnels s) g → ⊥) × ((k : ℕ) → IsRelayOf (x.plain k) g → ⊥)

-- What is said of a link: of one to the control plane, of an inbound one, of an upstream
pub record Seen (x : Machine) (trace : List Entry) : Type 0 where
  -- a link to the control plane that is there lives, was never shut, is open as far as it is, and is the one that the machine has
  pub control : (l : ℕ) → IsThere (x.control.links l).phase → lives l trace ≡ true
  pub control_unshut : (l : ℕ) → IsThere (x.control.links l).phase → was_shut l trace ≡ false
  pub control_open : (l : ℕ) → OpenBy (x.control.links l).phase (is_open l trace)
  pub current : (l : ℕ) → x.control.current ≡ Some l → IsThere (x.control.links l).phase
  pub only : (l : ℕ) → IsThere (x.control.links l).phase → x.control.current ≡ Some l
  -- an inbound link that is there lives, is open, and was never shut
  pub link : (l : ℕ) → IsLinkThere (x.inbound l).phase → (lives l trace ≡ true) × (is_open l trace ≡ true)
  pub link_unshut : (l : ℕ) → IsLinkThere (x.inbound l).phase → was_shut l trace ≡ false
  -- the upstream of a tunnel that isn't closed lives, was shut where the tunnel says so, and is open as far as the tunnel is
  pub up : (l s u : ℕ) → Joins ((x.inbound l).tunnels s) u
      → (lives u trace ≡ true) × (was_shut u trace ≡ ((x.inbound l).tunnels s).shut)
      × UpOpenBy ((x.inbound l).tunnels s).stage (is_open u trace)
  -- the machine has each link that lives
  pub has : (l : ℕ) → lives l trace ≡ true → HasLink x l
  -- links are numbered by their births: none above the last one lives, and the machine never had one; none is numbered 0
  pub births : births trace ≡ x.born
  pub unborn : (l : ℕ) → x.born < l → lives l trace ≡ false
  pub fresh : (l : ℕ) → x.born < l → IsFresh x l
  pub no_zero : (lives 0 trace ≡ false) × ((x.control.links 0).phase ≡ discovery.unborn) × ((x.inbound 0).phase ≡ inbound.unborn)
  -- no two parts have one link, and no two tunnels one upstream
  pub up_alone : (k s l : ℕ) → Joins ((x.inbound k).tunnels s) l
      → (IsThere (x.control.links l).phase → ⊥) × (IsLinkThere (x.inbound l).phase → ⊥)
  pub one_up : (k s j t u : ℕ) → Joins ((x.inbound k).tunnels s) u → Joins ((x.inbound j).tunnels t) u → (k ≡ j) × (s ≡ t)
  pub link_alone : (l : ℕ) → IsLinkThere (x.inbound l).phase → IsThere (x.control.links l).phase → ⊥
  -- and the plain links, and the links to gateways
  pub plain : PlainSeen x trace
  pub gates : GatesSeen x trace

-- so it is in every run
abbrev pub RunsAreSeen : Type 0
RunsAreSeen = (g : NodeConfig) (x : Machine) (points : List Point) → StandsFor g x points → Seen x (entries points)
