-- What each call of all links is to the machine.
use Rattle.std.specs.Prelude.{◌≡◌, ◌⊎◌, ℕ, ◌||◌, Bool, true, false, is_some, List, [], length, Option, Some, None, IsSome}
use Rattle.std.specs.FinMap.{get, len}
use Rattle.hb_base.specs.declared.cause.Cause.{Cause}
use Rattle.hb_base.specs.declared.door.Door.{Door}
use Rattle.hb_base.specs.declared.door.Why.{Why}
use Rattle.hb_base.specs.declared.door.Why.TheVariants as whys
use Rattle.hb_base.specs.declared.target.Target.{Target}
use Rattle.hb_captured.specs.Calm as calm
use Rattle.hb_captured.specs.Part.{Part, entry, up, welcomed, crowded}
use Rattle.hb_disco.specs.declared.response.Response.{Response}
use Rattle.hb_gate.specs.Observed as gate
use Rattle.hb_gate.specs.declared.gate.Gate.{Gate}
use Rattle.hb_gateway.specs.Calm as gateway_calm
use Rattle.hb_gateway.specs.Gateway as machine
use Rattle.hb_gateway.specs.Gateway.{Phase}
use Rattle.hb_gateway.specs.Key.{Key}
use Rattle.hb_gateway.specs.Part as gateway
use Rattle.hb_held.specs.Held.{Resources}
use Rattle.hb_held.specs.Outcome.{after_response}
use Rattle.hb_link.specs.Noted.{Told}
use Rattle.hb_model.specs.Point as point
use Rattle.hb_model.specs.declared.config.NodeConfig.{NodeConfig}
use Rattle.hb_proxy.specs.Load.{PlacesFull}
use Rattle.hb_proxy.specs.Machine.{Machine, Outward, outward}
use Rattle.hb_proxy.specs.Points.{Point, of_control, of_plain, of_gate}
use Rattle.hb_proxy.specs.Runs.{Steps, StandsFor}
use Rattle.hb_proxy.specs.Seen.{IsPlainThere, IsGateThere}
use Rattle.hb_proxy.specs.Ups.{IsRelayOf}
use Rattle.hb_relay.specs.Shows.{captured_of}
use Rattle.hb_relay.specs.declared.relay.Relay.{Relay}
use Rattle.hb_world.specs.declared.entry.Entry.{Entry}
use Rattle.hb_world.specs.declared.entry.Entry.TheVariants as e
use Rattle.hb_relays.specs.Reaches.{Follows, Meets, MeetsIn, NoneWaits, OnlyWaits, any}
use Rattle.hb_relays.specs.Shows.{ShowsRelays}
use Rattle.hb_relays.specs.declared.relays.Relays.{Relays}

-- ENTRIES

-- what an entry on the link of a number is: of the upstream of a link, of a link, or of a link to a gateway
abbrev pub gate_point : Option Gate → ℕ → Entry → Option Point
gate_point (Some kept) n z = Some (of_gate n (gateway.entry z))
gate_point None n z = None

abbrev pub point_by : Option ℕ → Option Relay → Option Gate → ℕ → Entry → Option Point
point_by (Some l) relay gate n z = Some (of_plain l (up z))
point_by None (Some relay) gate n z = Some (of_plain n (entry z))
point_by None None gate n z = gate_point gate n z

abbrev pub point_for : Relays → ℕ → Entry → Option Point
point_for k n z = point_by (get k.ups n) (get k.relays n) (get k.gates n) n z

abbrev pub EntersWhere : (Machine → Type 0) → ℕ → Entry → Relays → Told → Relays → Told → Type 0
EntersWhere P n z old told new now = (p : Point) → point_for old n z ≡ Some p → Meets P p old told new now

abbrev pub Enters : ℕ → Entry → Relays → Told → Relays → Told → Type 0
Enters n z old told new now = EntersWhere any n z old told new now

-- on a link to a gateway that is kept
abbrev pub GateEntersWhere : (Machine → Type 0) → ℕ → Entry → Relays → Told → Relays → Told → Type 0
GateEntersWhere P n z old told new now = IsSome (get old.gates n) → Meets P (of_gate n (gateway.entry z)) old told new now

abbrev pub GateEnters : ℕ → Entry → Relays → Told → Relays → Told → Type 0
GateEnters n z old told new now = GateEntersWhere any n z old told new now

abbrev pub GateTakes : ℕ → List ℕ → Relays → Told → Relays → Told → Type 0
GateTakes n bytes old told new now = GateEnters n (e.Came n bytes) old told new now

abbrev pub GateGoes : (n count : ℕ) → Relays → Told → Relays → Told → Type 0
GateGoes n count old told new now = (bytes : List ℕ) → length bytes ≡ count → GateEnters n (e.Went n bytes) old told new now

-- some bytes of so many went
abbrev pub Goes : (n count : ℕ) → Relays → Told → Relays → Told → Type 0
Goes n count old told new now = (bytes : List ℕ) → length bytes ≡ count → Enters n (e.Went n bytes) old told new now

-- bytes came, while this was held, and while one link more could be or not
abbrev pub Takes : Resources → (room : Bool) → ℕ → List ℕ → Relays → Told → Relays → Told → Type 0
Takes held room n bytes old told new now =
    (p : Point) → point_for old n (e.Came n bytes) ≡ Some p → MeetsIn held room p old told new now

-- a link is accepted at a door, of which this is made behind its birth where all places are taken, or not; no note is made
abbrev pub IsBorn : Part → (full : Bool) → Door → ℕ → Relays → Relays → Type 0
IsBorn p full d n old new =
    (g : NodeConfig) (x y : Machine) (points : List Point) → StandsFor g x points → ShowsRelays g old (outward x) → PlacesFull full g x
    → Steps g x (of_plain n (entry (e.Accepted n d))) y
    → (z : Machine) × Steps g y (of_plain n p) z × ShowsRelays g new (outward z)

-- it is taken in, or turned away
abbrev pub Begins : Door → ℕ → Relays → Relays → Type 0
Begins d n old new = IsBorn welcomed false d n old new

abbrev pub TurnsAway : Door → ℕ → Relays → Relays → Type 0
TurnsAway d n old new = IsBorn crowded true d n old new

-- the dial for a link gave the link u, or none
abbrev pub Dials : (l u : ℕ) → Relays → Relays → Type 0
Dials l u old new = (to : Target) (why : Why) → Meets any (of_plain l (up (e.Dialled u to why))) old (Some []) new (Some [])

-- that of a link to a gateway for a link, which alone waits, gave the link n: none waits then
abbrev pub DialsGate : (a n : ℕ) → Relays → Relays → Type 0
DialsGate a n old new =
    (to : Target) (key : Key) (g : NodeConfig) (x y : Machine) (points : List Point) → StandsFor g x points
    → ShowsRelays g old (outward x) → OnlyWaits a x → Steps g x (of_gate n (gateway.dialled (e.Dialled n to (whys.Gateway a)) key)) y
    → (follows : Follows g y new (Some []) (Some [])) × NoneWaits follows.reached

abbrev pub DialFails : ℕ → Relays → Told → Relays → Told → Type 0
DialFails l old told new now = (to : Target) (why : Why) → Meets any (of_plain l (up (e.DialFailed to why))) old told new now

-- a response on a link to the control plane is applied, which makes this of what was held
abbrev pub Updates : Resources → Relays → Told → Relays → Told → Type 0
Updates held old told new now =
    (l : ℕ) (r : Response) → Meets (λ x. held ≡ after_response x.control.held r) (of_control (point.applied l r)) old told new now

-- the run ends
abbrev pub Stops : Cause → Relays → Told → Relays → Told → Type 0
Stops cause old told new now = Meets any (of_control (point.stopped cause)) old told new now

-- OBSERVATIONS OF THE CODE, AND OF THE MACHINES

-- a link has this number, or an upstream
abbrev pub has_of : Relays → ℕ → Bool
has_of k n = is_some (get k.ups n) || is_some (get k.relays n) || is_some (get k.gates n)

abbrev pub IsPresent : Outward → ℕ → Type 0
IsPresent x n = IsPlainThere (x.plain n) ⊎ (((l : ℕ) × IsRelayOf (x.plain l) n) ⊎ IsGateThere (x.gates n).phase)

abbrev pub Has : Relays → ℕ → Bool → Type 0
Has k n has =
    (g : NodeConfig) (x : Outward) → ShowsRelays g k x → (has ≡ true → IsPresent x n) × (IsPresent x n → has ≡ true)

abbrev pub wants_in : Option Relay → ℕ
wants_in None = 0
wants_in (Some k) = calm.wants (captured_of k)

abbrev pub up_wants_in : Option Relay → ℕ
up_wants_in None = 0
up_wants_in (Some k) = calm.up_wants (captured_of k)

abbrev pub gate_wants : Option Gate → ℕ
gate_wants None = 0
gate_wants (Some k) = gate.wants_on k

abbrev pub own_wants : Option Relay → Option Gate → ℕ
own_wants (Some k) gate = wants_in (Some k)
own_wants None gate = gate_wants gate

abbrev pub wants_at : Relays → Option ℕ → ℕ → ℕ
wants_at k None n = own_wants (get k.relays n) (get k.gates n)
wants_at k (Some l) n = up_wants_in (get k.relays l)

-- how many bytes may be read of the link of a number
abbrev pub wants_of : Relays → ℕ → ℕ
wants_of k n = wants_at k (get k.ups n) n

-- of the machine: of the upstream of a link, of a link, or of one to a gateway
abbrev pub own_machine_wants : Option Relay → Option Gate → Outward → ℕ → ℕ
own_machine_wants None (Some kept) x n = gateway_calm.wants (x.gates n)
own_machine_wants relay gate x n = calm.wants (x.plain n)

abbrev pub machine_wants : Outward → Relays → Option ℕ → ℕ → ℕ
machine_wants x k None n = own_machine_wants (get k.relays n) (get k.gates n) x n
machine_wants x k (Some l) n = calm.up_wants (x.plain l)

abbrev pub Wants : Relays → ℕ → ℕ → Type 0
Wants k n count = (g : NodeConfig) (x : Outward) → ShowsRelays g k x → count ≡ machine_wants x k (get k.ups n) n

abbrev pub output_in : Option Relay → List ℕ
output_in None = []
output_in (Some k) = calm.output (captured_of k)

abbrev pub up_output_in : Option Relay → List ℕ
up_output_in None = []
up_output_in (Some k) = calm.up_output (captured_of k)

abbrev pub gate_output : Option Gate → List ℕ
gate_output None = []
gate_output (Some k) = gate.output_on k

abbrev pub own_output : Option Relay → Option Gate → List ℕ
own_output (Some k) gate = output_in (Some k)
own_output None gate = gate_output gate

abbrev pub held_at : Relays → Option ℕ → ℕ → List ℕ
held_at k None n = own_output (get k.relays n) (get k.gates n)
held_at k (Some l) n = up_output_in (get k.relays l)

-- the bytes that wait to be written to the link of a number
abbrev pub held_of : Relays → ℕ → List ℕ
held_of k n = held_at k (get k.ups n) n

abbrev pub own_machine_held : Option Relay → Option Gate → Outward → ℕ → List ℕ
own_machine_held None (Some kept) x n = gateway_calm.output (x.gates n)
own_machine_held relay gate x n = calm.output (x.plain n)

abbrev pub machine_held : Outward → Relays → Option ℕ → ℕ → List ℕ
machine_held x k None n = own_machine_held (get k.relays n) (get k.gates n) x n
machine_held x k (Some l) n = calm.up_output (x.plain l)

abbrev pub Holds : Relays → ℕ → List ℕ → Type 0
Holds k n bytes = (g : NodeConfig) (x : Outward) → ShowsRelays g k x → bytes ≡ machine_held x k (get k.ups n) n

-- the one write behind a connection error goes before the acts that are due
abbrev pub last_in : Option Gate → Bool
last_in None = false
last_in (Some k) = gate.says_last k

abbrev pub last_at : Relays → ℕ → Bool
last_at k n = last_in (get k.gates n)

abbrev pub is_faulted : Phase → Bool
is_faulted (machine.faulted code) = true
is_faulted phase = false

abbrev pub LastWords : Relays → ℕ → Bool → Type 0
LastWords k n last = (g : NodeConfig) (x : Outward) → ShowsRelays g k x → last ≡ true → is_faulted (x.gates n).phase ≡ true

-- how many links to gateways are kept
abbrev pub gate_count : Relays → ℕ
gate_count k = len k.gates

-- how many plain links are kept
abbrev pub count_of : Relays → ℕ
count_of k = len k.relays
