-- How a link is touched, and how a walk over all links goes on. No public clause cites this file.
use Rattle.std.specs.Prelude.{◌≡◌, ◌≢◌, ◌⊎◌, ℕ, ◌==◌, ◌<◌, ◌^◌, true, false, List, Option, Some, None, IsSome, if◌then◌else◌}
use Rattle.std.specs.FinMap.{FinMap, get, insert, remove}
use Rattle.std.specs.Ordering.{nat_cmp}
use Rattle.hb_base.specs.declared.note.Note.{Note}
use Rattle.hb_captured.specs.Answer.{key_of}
use Rattle.hb_captured.specs.Captured as captured
use Rattle.hb_captured.specs.Part.{note_if}
use Rattle.hb_gate.specs.declared.gate.Gate.{Gate}
use Rattle.hb_gateway.specs.Calm.{close_due}
use Rattle.hb_link.specs.Noted.{Told, Takes}
use Rattle.hb_model.specs.declared.config.NodeConfig.{NodeConfig}
use Rattle.hb_proxy.specs.Machine.{Machine, Outward, outward}
use Rattle.hb_proxy.specs.Points.{Point}
use Rattle.hb_proxy.specs.Runs.{ControlRests, IfThrough, Lets, NoneOffersAmong, StandsFor}
use Rattle.hb_relay.specs.Answering.{routing_of}
use Rattle.hb_relay.specs.Shows.{captured_of}
use Rattle.hb_relay.specs.declared.relay.Relay.{Relay}
use Rattle.hb_relay.specs.declared.routes.Routes.{Routes}
use Rattle.hb_world.specs.declared.act.Act.{Act}
use Rattle.hb_world.specs.declared.act.Act.TheVariants as act
use Rattle.hb_relays.specs.Acts.{Acts, ActsOn}
use Rattle.hb_relays.specs.Shows.{AreCalm, IsIdle, IsIndex, ShowsGate, ShowsRelay, ShowsRelays}
use Rattle.hb_relays.specs.Touched.{is_touched, touched, TakesOut}
use Rattle.hb_relays.specs.declared.relays.Relays.{Relays}

abbrev pub Map : Type 0
Map = FinMap nat_cmp Relay

abbrev pub Index : Type 0
Index = FinMap nat_cmp ℕ

-- with other links and upstreams
abbrev pub relays_with : Map → Index → Relays → Relays
relays_with relays ups k = record k { relays = relays; ups = ups }

-- and with other counts
abbrev pub routes_with : Routes → Relays → Relays
routes_with routes k = record k { routes = routes }

-- a link is touched: it may have an act due, and is to be told
abbrev pub touched_at : ℕ → Relays → Relays
touched_at l k = record k { due = touched l k.due; stirs = touched l k.stirs }

-- what is told to a link, and makes this of it, with this note or none
abbrev pub Telling : Type 1
Telling = Relay → Relay → Option Note → Type 0

-- with it in the place of the old one
abbrev pub changed : ℕ → Relay → Relays → Relays
changed l new k = relays_with (insert k.relays l new) k.ups k

-- it is touched; where nothing of it changed it needn't be
abbrev pub IsChanged : (l : ℕ) (old new : Relay) → Relays → Relays → Type 0
IsChanged l old new k m =
    (m ≡ touched_at l (changed l new k)) ⊎ ((captured_of new ≡ captured_of old) × (m ≡ changed l new k))

-- it is told to the one of a number, where there is one
abbrev pub TellsBy : Telling → Option Relay → ℕ → Relays → Told → Relays → Told → Type 0
TellsBy R None n k told m now = (m ≡ k) × (now ≡ told)
TellsBy R (Some old) n k told m now =
    (new : Relay) × (made : Option Note) × R old new made × IsChanged n old new k m × Takes told (note_if made) now

-- ACTS

-- a link is closed: the one of this number itself, or its upstream
abbrev pub closed_by : (n u : ℕ) → Relays → Relays
closed_by n u k = if u == n then relays_with (remove k.relays n) k.ups k else relays_with k.relays (remove k.ups u) k

-- what a close leaves
abbrev pub left_by : ℕ → Act → Relays → Relays
left_by n (act.Close u cause) k = closed_by n u k
left_by n due k = k

abbrev pub finished : ℕ → Act → Relays → Relays
finished n due k = touched_at n (left_by n due k)

-- of all links but this one it is known that they have no act due where they weren't touched
pub record ShowsBut (g : NodeConfig) (n : ℕ) (k : Relays) (x : Outward) : Type 0 where
  pub relays : (l : ℕ) → ShowsRelay l (get k.relays l) (x.plain l)
  pub index : IsIndex k.ups x.plain
  pub numbered : (l : ℕ) → IsSome (get k.relays l) → l < 2 ^ 64
  pub idle : (l : ℕ) → l ≢ n → is_touched k.due l ≡ false → IsIdle (x.plain l)
  pub counted : routing_of k.routes ≡ record { opens = x.opens; hbone_port = g.hbone_port }
  pub gates : (m : ℕ) → ShowsGate m (get k.gates m) (x.gates m)
  pub gate_numbered : (m : ℕ) → IsSome (get k.gates m) → m < 2 ^ 64
  pub gate_idle : (m : ℕ) → is_touched k.gate_due m ≡ false → close_due (x.gates m).phase ≡ None
  pub calm : AreCalm x
  pub wanting : (l : ℕ) → (x.plain l).stage ≡ captured.due → IfThrough (key_of (x.plain l).aim) (NoneOffersAmong x.gates)

-- the walk goes to a link that may have an act due
abbrev pub GoesTo : Option ℕ → Relays → Relays → Type 0
GoesTo next old new = (new ≡ record old { due = new.due }) × TakesOut old.relays next old.due new.due

-- the act that is due of one link; where none is the links that were shown are shown still
abbrev pub ActsOf : ℕ → Option Act → Relays → Relays → Type 0
ActsOf n None old new =
    (new.due ≡ old.due)
    × ((g : NodeConfig) (x : Machine) (points : List Point) → StandsFor g x points → ShowsBut g n old (outward x)
    → ShowsRelays g new (outward x))
ActsOf n (Some due) old new =
    (g : NodeConfig) (x : Machine) (points : List Point) → StandsFor g x points → ShowsBut g n old (outward x) → ControlRests x.control
    → ((k : ℕ) → Lets true (x.inbound k)) → ActsOn (Some due) new g x

-- where none is due of a link that walks lead to, the links that were shown are shown still
abbrev pub KeepsShowing : Relays → Relays → Type 0
KeepsShowing old new =
    (g : NodeConfig) (x : Machine) (points : List Point) → StandsFor g x points → ShowsRelays g old (outward x)
    → ShowsRelays g new (outward x)

-- an act of a link; where none is due all are shown still
abbrev pub LinkActs : Option Act → Relays → Relays → Type 0
LinkActs None old new = KeepsShowing old new
LinkActs (Some due) old new = Acts (Some due) old new

-- LINKS TO GATEWAYS

-- one is touched
abbrev pub gate_touched_at : ℕ → Relays → Relays
gate_touched_at n k = record k { gate_due = touched n k.gate_due; gate_stirs = touched n k.gate_stirs }

-- one takes the place of another
abbrev pub with_gate : ℕ → Gate → Relays → Relays
with_gate n new k = record k { gates = insert k.gates n new }

-- the walk goes to one that may have an act due
abbrev pub GoesToGate : Option ℕ → Relays → Relays → Type 0
GoesToGate next old new = (new ≡ record old { gate_due = new.gate_due }) × TakesOut old.gates next old.gate_due new.gate_due

-- of all but this one it is known that they have none where they weren't touched
pub record ShowsGatesBut (g : NodeConfig) (n : ℕ) (k : Relays) (x : Outward) : Type 0 where
  pub relays : (l : ℕ) → ShowsRelay l (get k.relays l) (x.plain l)
  pub index : IsIndex k.ups x.plain
  pub numbered : (l : ℕ) → IsSome (get k.relays l) → l < 2 ^ 64
  pub idle : (l : ℕ) → is_touched k.due l ≡ false → IsIdle (x.plain l)
  pub counted : routing_of k.routes ≡ record { opens = x.opens; hbone_port = g.hbone_port }
  pub gates : (m : ℕ) → ShowsGate m (get k.gates m) (x.gates m)
  pub gate_numbered : (m : ℕ) → IsSome (get k.gates m) → m < 2 ^ 64
  pub gate_idle : (m : ℕ) → m ≢ n → is_touched k.gate_due m ≡ false → close_due (x.gates m).phase ≡ None
  pub calm : AreCalm x
  pub wanting : (l : ℕ) → (x.plain l).stage ≡ captured.due → IfThrough (key_of (x.plain l).aim) (NoneOffersAmong x.gates)

-- a close, of the link of this number
abbrev pub closing_as : ℕ → Act → Act
closing_as n (act.Close u cause) = act.Close n cause
closing_as n given = given

-- its close, where that is due; else all are shown still
abbrev pub GateActs : ℕ → Option Act → Relays → Relays → Type 0
GateActs n None old new =
    (new.due ≡ old.due) × (new.gate_due ≡ old.gate_due)
    × ((g : NodeConfig) (x : Machine) (points : List Point) → StandsFor g x points → ShowsGatesBut g n old (outward x)
    → ShowsRelays g new (outward x))
GateActs n (Some given) old new =
    (g : NodeConfig) (x : Machine) (points : List Point) → StandsFor g x points → ShowsGatesBut g n old (outward x)
    → ControlRests x.control → ((k : ℕ) → Lets true (x.inbound k)) → ActsOn (Some given) new g x
