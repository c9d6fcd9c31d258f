-- What is put on streams, and given back to their windows. No public clause cites this file.
use Rattle.std.specs.Prelude.{⊤, ◌≡◌, ◌≢◌, ℕ, ◌==◌, ◌&&◌, ◌||◌, nat_le, nat_lt, Bool, true, false, List, [], Option, Some, None, IsSome}
use Rattle.std.specs.FinMap.{get}
use Rattle.hb_base.specs.declared.note.Note.{Note}
use Rattle.hb_captured.specs.Answer.{Routing}
use Rattle.hb_captured.specs.Captured.{Captured, due}
use Rattle.hb_captured.specs.Part.{note_if}
use Rattle.hb_captured.specs.Runs.{Lives}
use Rattle.hb_conn.specs.Observed.{count_put}
use Rattle.hb_gate.specs.Shows as gate
use Rattle.hb_gate.specs.declared.gate.Gate.{Gate}
use Rattle.hb_gateway.specs.Calm as gateway_calm
use Rattle.hb_gateway.specs.Gateway.{Gateway, carries, stage_of}
use Rattle.hb_gateway.specs.Response.{carrying}
use Rattle.hb_link.specs.Noted.{Told}
use Rattle.hb_model.specs.declared.config.NodeConfig.{NodeConfig}
use Rattle.hb_proxy.specs.Machine.{Machine, outward}
use Rattle.hb_proxy.specs.Notes.{notes}
use Rattle.hb_proxy.specs.Points.{Point}
use Rattle.hb_proxy.specs.Runs.{StandsFor, LiveRests, RestsAmong, may_finish, routing_of}
use Rattle.hb_relay.specs.Shows.{Shows}
use Rattle.hb_relay.specs.declared.relay.Relay.{Relay}
use Rattle.hb_relays.specs.Joining.{Streams, OfRuns, ShowsSome, GoesOn, all, every, not_of, with_link}
use Rattle.hb_relays.specs.Reaches.{Leads}
use Rattle.hb_relays.specs.declared.relays.Relays.{Relays}

-- A LINK AND ITS STREAM

-- it lives on one that carries bytes, and the code shows both, of which this is known
pub record OnStream (l n s : ℕ) (P : Captured → Gateway → Type 0) (k : Relay) (h : Gate) (x : Captured) (y : Gateway) : Type 0 where
  pub number : k.number ≡ l
  pub gate_number : h.number ≡ n
  pub shows : Shows k x
  pub gate_shows : gate.Shows h y
  pub lives : Lives x
  pub on_gate : x.gate ≡ n
  pub on_stream : x.stream ≡ s
  pub carries : carries y.phase ≡ true
  pub stage : stage_of y s ≡ carrying
  pub told : (y.streams s).mail ≡ None
  pub here : P x y

-- beside the two all is as it was, and rests where it did
pub record Beside (l n : ℕ) (x y : Machine) : Type 0 where
  pub plain : (k : ℕ) → k ≢ l → y.plain k ≡ x.plain k
  pub gates : (m : ℕ) → m ≢ n → y.gates m ≡ x.gates m
  pub rests : (k : ℕ) → k ≢ l → RestsAmong x.gates (x.plain k) → RestsAmong y.gates (y.plain k)
  pub calm : gateway_calm.IsCalm (x.gates n) → gateway_calm.IsCalm (y.gates n)
  pub phase : (y.gates n).phase ≡ (x.gates n).phase
  pub up : (y.plain l).up ≡ (x.plain l).up
  pub closed : (y.plain l).closed ≡ (x.plain l).closed

-- such points lead on to where this is known of them
pub record Moves (l n s : ℕ) (Q : Captured → Gateway → Type 0) (g : NodeConfig) (x : Machine) (k : Relay) (h : Gate) : Type 0 where
  pub more : List Point
  pub reached : Machine
  pub leads : Leads g x more reached
  pub shows : OnStream l n s Q k h (reached.plain l) (reached.gates n)
  pub beside : Beside l n x reached
  pub opens : reached.opens ≡ x.opens
  pub noted : notes more ≡ []

abbrev pub Turns : ℕ → (P Q : Captured → Gateway → Type 0) → Relay → Gate → Relay → Gate → Type 0
Turns s P Q old kept new two =
    (l n : ℕ) (g : NodeConfig) (x : Machine) (points : List Point) → StandsFor g x points
    → OnStream l n s P old kept (x.plain l) (x.gates n) → Moves l n s Q g x new two

-- nothing; all that was written is given back; and nothing more can be put; nor END_STREAM
abbrev pub any : Captured → Gateway → Type 0
any x y = ⊤

abbrev pub GivenBack : Captured → Gateway → Type 0
GivenBack x y = x.owed ≡ 0

abbrev pub IsPut : Captured → Gateway → Type 0
IsPut x y = (x.owed ≡ 0) × (count_put y.conn x.stream x.ways.up.held ≡ 0)

abbrev pub IsFinished : Captured → Gateway → Type 0
IsFinished x y = (x.owed ≡ 0) × (count_put y.conn x.stream x.ways.up.held ≡ 0) × (may_finish x y ≡ false)

-- they lead on to where the link rests; it may be done there, of which this note is made
pub record Ends (l n : ℕ) (g : NodeConfig) (x : Machine) (k : Relay) (h : Gate) (behind : Routing) (made : Option Note) : Type 0 where
  pub more : List Point
  pub reached : Machine
  pub leads : Leads g x more reached
  pub number : k.number ≡ l
  pub gate_number : h.number ≡ n
  pub shows : Shows k (reached.plain l)
  pub gate_shows : gate.Shows h (reached.gates n)
  pub rests : RestsAmong reached.gates (reached.plain l)
  pub undue : (reached.plain l).stage ≢ due
  pub beside : Beside l n x reached
  pub counted : behind ≡ routing_of g reached
  pub noted : notes more ≡ note_if made

abbrev pub Rests : ℕ → (Captured → Gateway → Type 0) → Relay → Gate → Routing → Relay → Gate → Routing → Option Note → Type 0
Rests s P old kept before new two behind made =
    (l n : ℕ) (g : NodeConfig) (x : Machine) (points : List Point) → StandsFor g x points
    → OnStream l n s P old kept (x.plain l) (x.gates n) → before ≡ routing_of g x → Ends l n g x new two behind made

-- bytes of a link may be put on its stream, as far as this says: where it doesn't, none can; that it says so tells nothing
abbrev pub MayPut : Relay → Gate → Bool → Type 0
MayPut k h may =
    may ≡ false → (x : Captured) (y : Gateway) → Shows k x → gate.Shows h y → carries y.phase ≡ true
    → count_put y.conn x.stream x.ways.up.held ≡ 0

-- a link that lives on a stream of a link to a gateway rests there, where this says so; that it doesn't say so tells nothing
abbrev pub RestsOn : Relay → Gate → Bool → Type 0
RestsOn k h is =
    is ≡ true → (x : Captured) (y : Gateway) → Shows k x → gate.Shows h y → Lives x → carries y.phase ≡ true → LiveRests x y

-- ALL LINKS

-- of whatever run the code shows the link rests on the link to a gateway of a number where it lives there, where this says so; that it
-- doesn't say so tells nothing
abbrev pub RestsAt : (l n : ℕ) → Relays → Bool → Type 0
RestsAt l n k is = is ≡ true → OfRuns k (λ x. Lives (x.plain l) → (x.plain l).gate ≡ n → RestsAmong x.gates (x.plain l))

-- of whatever run the code shows the link lives there, or on no stream
abbrev pub LivesAt : ℕ → Relays → Option (ℕ × ℕ) → Type 0
LivesAt l k None = OfRuns k (λ x. Lives (x.plain l) → ⊥)
LivesAt l k (Some at) =
    IsSome (get k.relays l) × OfRuns k (λ x. Lives (x.plain l) × ((x.plain l).gate ≡ at.0) × ((x.plain l).stream ≡ at.1))

-- no link waits for its dial, or for one to a gateway, but perhaps this one
abbrev pub NoneDueBut : ℕ → Machine → Type 0
NoneDueBut l x = (k : ℕ) → k ≢ l → (x.plain k).stage ≢ due

abbrev pub NoneDue : Machine → Type 0
NoneDue x = (k : ℕ) → (x.plain k).stage ≢ due

-- What may be put of a link on its stream is, what is owed is given back, and it is done where all went through: it rests behind that. A
-- stream that ends makes room for one, so no other link may wait for that
abbrev pub Pumps : ℕ → Relays → Told → Relays → Told → Type 0
Pumps l old told new now =
    (resting : Streams) (g : NodeConfig) (x : Machine) (points : List Point) → StandsFor g x points
    → ShowsSome all resting all g old (outward x) → NoneDueBut l x → GoesOn all (with_link l resting) all g x new told now

-- so it is of each link of a set
abbrev pub PumpsSet : (Streams → Streams) → Relays → Told → Relays → Told → Type 0
PumpsSet set old told new now =
    (resting : Streams) (g : NodeConfig) (x : Machine) (points : List Point) → StandsFor g x points
    → ShowsSome all resting all g old (outward x) → NoneDue x → GoesOn all (set resting) all g x new told now

-- those on streams of a link to a gateway from one on, where one is given, and in front of another
abbrev pub is_from : Option ℕ → ℕ → Bool
is_from None s = false
is_from (Some first) s = nat_le first s

abbrev pub is_before : ℕ → Option ℕ → Bool
is_before s None = true
is_before s (Some next) = nat_lt s next

abbrev pub with_streams : ℕ → (first next : Option ℕ) → Streams → Streams
with_streams n first next streams k x = streams k x || (x.gate == n && (is_from first x.stream && is_before x.stream next))

abbrev pub PumpsFrom : ℕ → Option ℕ → Relays → Told → Relays → Told → Type 0
PumpsFrom n first old told new now = PumpsSet (with_streams n first None) old told new now

abbrev pub PumpsOne : (n s : ℕ) → Option ℕ → Relays → Told → Relays → Told → Type 0
PumpsOne n s next old told new now = PumpsSet (with_streams n (Some s) next) old told new now

-- and of each stream of a link to a gateway
abbrev pub PumpsGate : ℕ → Relays → Told → Relays → Told → Type 0
PumpsGate n old told new now =
    (g : NodeConfig) (x : Machine) (points : List Point) → StandsFor g x points
    → ShowsSome all (not_of n) all g old (outward x) → NoneDue x → GoesOn all every all g x new told now
