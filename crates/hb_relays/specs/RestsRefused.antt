-- A link isn't passed over while bytes of it may be put; and what is told rightly of small links. Each of these answers tells something one
-- way alone, that no byte may be put, or that the link rests: the other way is right of each link.
use Rattle.std.specs.Prelude.{◌≡◌, ℕ, ◌<◌, true, false, [], ◌∷◌, Some}
use Rattle.std.specs.FinMap.{get}
use Rattle.hb_captured.specs.Runs.{Lives}
use Rattle.hb_conn.specs.Connection.{Connection, fresh_client, core_of, with_core}
use Rattle.hb_conn.specs.Observed.{count_put}
use Rattle.hb_flow.specs.Flows.{opened}
use Rattle.hb_gate.specs.Refused.{IsOpenOn, all_written}
use Rattle.hb_gate.specs.declared.gate.Gate.{Gate}
use Rattle.hb_proxy.specs.Machine.{Machine}
use Rattle.hb_relay.specs.StreamRefused.{HoldsThere}
use Rattle.hb_relay.specs.declared.relay.Relay.{Relay}
use Rattle.hb_relays.specs.Joining.{OfRuns}
use Rattle.hb_relays.specs.Pumping.{MayPut, RestsOn, RestsAt}
use Rattle.hb_relays.specs.declared.relays.Relays.{Relays}

-- the connection of a client that lets bytes go: nothing waits to be written, and the stream 1 has its first windows
abbrev pub lets_go : Connection
lets_go = with_core all_written (record (core_of all_written) { flow = opened (core_of all_written).flow 1 })

-- it says that no byte may be put, or that the link rests, though one byte waits, which may be put
abbrev pub MissesPut : Type 0
MissesPut = (byte : ℕ) (k : Relay) (h : Gate) → HoldsThere (byte ∷ []) 1 k → IsOpenOn lets_go h → MayPut k h false → ⊥

abbrev pub PassesOver : Type 0
PassesOver = (byte : ℕ) (k : Relay) (h : Gate) → HoldsThere (byte ∷ []) 1 k → IsOpenOn lets_go h → RestsOn k h true → ⊥

-- so of whatever run the code shows, where bytes of the link of this number may be put on its stream there
pub record SomeMayGo (l n : ℕ) (x : Machine) : Type 0 where
  pub lives : Lives (x.plain l)
  pub there : (x.plain l).gate ≡ n
  pub some : 0 < count_put (x.gates n).conn (x.plain l).stream (x.plain l).ways.up.held

abbrev pub PassesOverAmong : Type 0
PassesOverAmong = (l n : ℕ) (k : Relays) → RestsAt l n k true → OfRuns k (λ x. SomeMayGo l n x → ⊥)

-- a link of which no byte waits rests; where octets wait to be written none may be put
pub record RestsAreTold : Type 0 where
  pub none : (k : Relay) (h : Gate) → HoldsThere [] 1 k → IsOpenOn lets_go h → MayPut k h false
  pub behind : (byte : ℕ) (k : Relay) (h : Gate) → HoldsThere (byte ∷ []) 1 k → IsOpenOn fresh_client h → MayPut k h false
  pub rests : (k : Relay) (h : Gate) → HoldsThere [] 1 k → IsOpenOn lets_go h → RestsOn k h true
  pub among : (l n : ℕ) (k : Relays) (w : Relay) (h : Gate) → get k.relays l ≡ Some w → get k.gates n ≡ Some h → HoldsThere [] 1 w
      → IsOpenOn lets_go h → RestsAt l n k true

-- that bytes may be put, or that it doesn't rest, says nothing
pub record OthersSayNothing : Type 0 where
  pub put : (k : Relay) (h : Gate) → MayPut k h true
  pub rests : (k : Relay) (h : Gate) → RestsOn k h false
  pub among : (l n : ℕ) (k : Relays) → RestsAt l n k false
