-- Which plain links of the machine those of the code show.
use Rattle.std.specs.Prelude.{⊤, ◌≡◌, ℕ, ◌<◌, ◌^◌, true, false, Option, Some, None, IsSome}
use Rattle.std.specs.FinMap.{FinMap, get}
use Rattle.std.specs.Ordering.{nat_cmp}
use Rattle.hb_captured.specs.Answer.{key_of}
use Rattle.hb_captured.specs.Calm.{IsIdleBy}
use Rattle.hb_captured.specs.Captured.{Captured, Stage, unborn, due, over, is_raw}
use Rattle.hb_gate.specs.Shows as gate
use Rattle.hb_gate.specs.declared.gate.Gate.{Gate}
use Rattle.hb_gateway.specs.Calm as gateway_calm
use Rattle.hb_gateway.specs.Gateway as gateway
use Rattle.hb_gateway.specs.Gateway.{Gateway, Phase}
use Rattle.hb_model.specs.declared.config.NodeConfig.{NodeConfig}
use Rattle.hb_proxy.specs.Machine.{Outward}
use Rattle.hb_proxy.specs.Runs.{RestsAmong, IfThrough, NoneOffersAmong}
use Rattle.hb_proxy.specs.Seen.{IsPlainThere, IsGateThere}
use Rattle.hb_proxy.specs.Ups.{IsRelayOf}
use Rattle.hb_relay.specs.Answering.{routing_of}
use Rattle.hb_relay.specs.Shows.{Shows}
use Rattle.hb_relay.specs.declared.relay.Relay.{Relay}
use Rattle.hb_relays.specs.Touched.{is_touched}
use Rattle.hb_relays.specs.declared.relays.Relays.{Relays}

-- it isn't there, and has no upstream: before its birth, or closed
abbrev pub IsAwayBy : Stage → Captured → Type 0
IsAwayBy unborn x = x.up ≡ 0
IsAwayBy (over cause) x = (x.closed ≡ true) × (x.up ≡ 0) × (is_raw x ≡ true)
IsAwayBy stage x = ⊥

abbrev pub IsAway : Captured → Type 0
IsAway x = IsAwayBy x.stage x

-- where the code has one of this number that is there, and where it has none it isn't
abbrev pub ShowsRelay : ℕ → Option Relay → Captured → Type 0
ShowsRelay l None x = IsAway x
ShowsRelay l (Some k) x = (k.number ≡ l) × Shows k x × IsPlainThere x

-- each upstream is found, and what is found is one
pub record IsIndex (ups : FinMap nat_cmp ℕ) (f : ℕ → Captured) : Type 0 where
  pub found : (l u : ℕ) → IsRelayOf (f l) u → get ups u ≡ Some l
  pub joined : (l u : ℕ) → get ups u ≡ Some l → IsRelayOf (f l) u

-- no call is due of a link
abbrev pub IsIdle : Captured → Type 0
IsIdle x = IsIdleBy x.stage x

-- a link to a gateway isn't there: before its birth, or closed
abbrev pub IsGateAway : Phase → Type 0
IsGateAway gateway.unborn = ⊤
IsGateAway gateway.closed = ⊤
IsGateAway phase = ⊥

-- where the code has one of this number that is there it shows it, and where it has none it isn't
abbrev pub ShowsGate : ℕ → Option Gate → Gateway → Type 0
ShowsGate n None y = IsGateAway y.phase
ShowsGate n (Some k) y = (k.number ≡ n) × gate.Shows k y × IsGateThere y.phase

-- nothing more happens by itself on the links to gateways, and on the streams that they carry
pub record AreCalm (x : Outward) : Type 0 where
  pub gates : (n : ℕ) → gateway_calm.IsCalm (x.gates n)
  pub streams : (l : ℕ) → RestsAmong x.gates (x.plain l)

-- of what goes out by itself the code shows the plain links, the links to gateways, and the counts
pub record ShowsRelays (g : NodeConfig) (k : Relays) (x : Outward) : Type 0 where
  pub relays : (l : ℕ) → ShowsRelay l (get k.relays l) (x.plain l)
  pub index : IsIndex k.ups x.plain
  -- the numbers of links have 64 bits
  pub numbered : (l : ℕ) → IsSome (get k.relays l) → l < 2 ^ 64
  -- no other link has an act due
  pub idle : (l : ℕ) → is_touched k.due l ≡ false → IsIdle (x.plain l)
  pub counted : routing_of k.routes ≡ record { opens = x.opens; hbone_port = g.hbone_port }
  pub gates : (n : ℕ) → ShowsGate n (get k.gates n) (x.gates n)
  pub gate_numbered : (n : ℕ) → IsSome (get k.gates n) → n < 2 ^ 64
  -- no other link to a gateway is to be closed
  pub gate_idle : (n : ℕ) → is_touched k.gate_due n ≡ false → gateway_calm.close_due (x.gates n).phase ≡ None
  pub calm : AreCalm x
  -- a link that waits for one to its gateway finds none that has room
  pub wanting : (l : ℕ) → (x.plain l).stage ≡ due → IfThrough (key_of (x.plain l).aim) (NoneOffersAmong x.gates)
