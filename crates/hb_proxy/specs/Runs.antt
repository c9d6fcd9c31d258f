-- Which point of the whole proxy may come next, and what a run of it is.
use Rattle.std.specs.Prelude.{⊤, ◌≡◌, ◌≢◌, ℕ, ◌+◌, ◌<◌, min, ◌&&◌, ◌||◌, not, Bool, true, false, List, [], ◌∷◌, ◌++◌, Option, Some, None}
use Rattle.hb_base.specs.declared.door.Why.TheVariants as whys
use Rattle.hb_base.specs.declared.target.Target.{Target}
use Rattle.hb_captured.specs.Calm as captured_calm
use Rattle.hb_captured.specs.Answer.{Routing, through, key_of}
use Rattle.hb_captured.specs.Captured as captured_link
use Rattle.hb_captured.specs.Captured.{Captured, is_raw, is_through}
use Rattle.hb_captured.specs.Part as captured_part
use Rattle.hb_captured.specs.Runs as captured
use Rattle.hb_conn.specs.Observed.{own_side_open, creditable, count_put, end_waits}
use Rattle.hb_gateway.specs.Calm as gateway_calm
use Rattle.hb_gateway.specs.Calm.{AllTold}
use Rattle.hb_gateway.specs.Gateway as gateway
use Rattle.hb_gateway.specs.Gateway.{Gateway, offers, is_active}
use Rattle.hb_gateway.specs.Key.{Key}
use Rattle.hb_gateway.specs.Part as gateway_part
use Rattle.hb_gateway.specs.Runs as gateway_runs
use Rattle.hb_inbound.specs.Calm.{IsAnswered, IsCalm, IsQuiet, data_waits}
use Rattle.hb_inbound.specs.Inbound as link
use Rattle.hb_inbound.specs.Inbound.{Inbound}
use Rattle.hb_inbound.specs.Part as part
use Rattle.hb_inbound.specs.Part.{Part}
use Rattle.hb_inbound.specs.Runs as inbound
use Rattle.hb_model.specs.Discovery as discovery
use Rattle.hb_model.specs.Machine as control
use Rattle.hb_model.specs.Point as point
use Rattle.hb_model.specs.Runs as model
use Rattle.hb_model.specs.Runs.{IsCalmBy}
use Rattle.hb_model.specs.declared.config.NodeConfig.{NodeConfig}
use Rattle.hb_world.specs.declared.entry.Entry.{Entry}
use Rattle.hb_world.specs.declared.entry.Entry.TheVariants as e
use Rattle.hb_tunnel.specs.Way.{is_done}
use Rattle.hb_world.specs.declared.entry.Way.TheVariants as way
use Rattle.hb_proxy.specs.Machine.{Machine, fresh, local, plain_local, with_control, with_part, with_plain, with_gate, with_stream}
use Rattle.hb_proxy.specs.Load.{PlacesFull, LinksFull, PlacesBurst, LinksBurst}
use Rattle.hb_proxy.specs.Points.{Point, of_control, of_link, of_plain, of_gate, of_stream}
use Rattle.hb_proxy.specs.Shared.{Shared, asks, puts, credits, captured_part as captured_side, gateway_part as gateway_side}

-- WHICH ENTRIES GO FIRST

-- the answer to an act: to a dial, a shut or a close
abbrev pub is_act : Entry → Bool
is_act (e.Dialled l to why) = true
is_act (e.DialFailed to why) = true
is_act (e.Shut l) = true
is_act (e.Closed l cause) = true
is_act _ = false

-- a connection error was told on a link
abbrev pub is_faulted : discovery.Phase → Bool
is_faulted (discovery.faulted code) = true
is_faulted _ = false

abbrev pub is_link_faulted : link.Phase → Bool
is_link_faulted (link.faulted code) = true
is_link_faulted _ = false

abbrev pub is_gate_faulted : gateway.Phase → Bool
is_gate_faulted (gateway.faulted code) = true
is_gate_faulted _ = false

-- an act, or the one write behind a connection error
abbrev pub goes_first : control.Machine → Entry → Bool
goes_first m (e.Went l bytes) = is_faulted (m.links l).phase
goes_first m (e.Broke l) = is_faulted (m.links l).phase
goes_first m (e.Balked (way.Write l)) = is_faulted (m.links l).phase
goes_first m entry = is_act entry

abbrev pub link_first : link.Phase → Entry → Bool
link_first phase entry = is_link_faulted phase || is_act entry

abbrev pub gate_first : gateway.Phase → Entry → Bool
gate_first phase entry = is_gate_faulted phase || is_act entry

-- WHAT THE OTHER PARTS ARE MEANWHILE

-- on an inbound link nothing more happens by itself; and no call is due on it either, where the entry of another part is none that
-- goes first
abbrev pub Lets : (first : Bool) → Inbound → Type 0
Lets true x = IsCalm x
Lets false x = IsQuiet x

-- nor on a plain link
abbrev pub PlainLets : (first : Bool) → Captured → Type 0
PlainLets true x = captured_calm.IsCalm x
PlainLets false x = captured_calm.IsQuiet x

-- nor on a link to a gateway
abbrev pub GateLets : (first : Bool) → Gateway → Type 0
GateLets true x = gateway_calm.IsCalm x
GateLets false x = gateway_calm.IsQuiet x

-- END_STREAM may be put on the stream of a plain link: the link has ended, and all that came on it has gone
abbrev pub may_finish : Captured → Gateway → Bool
may_finish x y =
    is_done x.ways.up && not x.up_shut && own_side_open y.conn x.stream && not (data_waits y.conn x.stream)

-- both sides ended, and all went through, also this end's END_STREAM, whole
abbrev pub is_complete : Captured → Gateway → Bool
is_complete x y =
    is_through x && x.up_shut && not (is_active y.conn x.stream) && not (end_waits y.conn x.stream)

-- a plain link that lives on a stream: all that was written to the link is given back, and nothing can be put now
pub record LiveRests (x : Captured) (y : Gateway) : Type 0 where
  pub given_back : x.owed ≡ 0
  pub none_goes : count_put y.conn x.stream x.ways.up.held ≡ 0
  pub not_finished : may_finish x y ≡ false
  pub not_complete : is_complete x y ≡ false

abbrev pub StreamRestsBy : captured_link.Stage → Captured → Gateway → Type 0
StreamRestsBy captured_link.live x y = LiveRests x y
StreamRestsBy stage x y = ⊤

-- with the link to a gateway that it has, where it has one
abbrev pub RestsAmong : (ℕ → Gateway) → Captured → Type 0
RestsAmong gates x = is_raw x ≡ false → StreamRestsBy x.stage x (gates x.gate)

abbrev pub StreamRests : Machine → Captured → Type 0
StreamRests m x = RestsAmong m.gates x

-- so it is of each link to a gateway, and of each stream
pub record GatesLet (first : Bool) (x : Machine) : Type 0 where
  pub gates : (g : ℕ) → GateLets first (x.gates g)
  pub streams : (l : ℕ) → StreamRests x (x.plain l)

-- no call of the control plane is due, and nothing more happens by itself on its links
pub record ControlRests (m : control.Machine) : Type 0 where
  pub no_dial : m.dials ≡ false
  pub calm : (l : ℕ) → IsCalmBy (m.links l).phase (m.links l)

-- a birth has the next number; none is accepted behind the end of the run
abbrev pub BirthMayCome : Machine → Entry → Type 0
BirthMayCome x (e.Accepted l door) = (l ≡ x.born + 1) × (x.control.over ≡ false)
BirthMayCome x (e.Dialled l to why) = l ≡ x.born + 1
BirthMayCome x _ = ⊤

-- so an entry of the control plane, or of none, may come
pub record ControlMayCome (x : Machine) (entry : Entry) : Type 0 where
  pub birth : BirthMayCome x entry
  pub links : (l : ℕ) → Lets (goes_first x.control entry) (x.inbound l)
  pub plain : (l : ℕ) → PlainLets (goes_first x.control entry) (x.plain l)
  pub gates : GatesLet (goes_first x.control entry) x

-- and one of an inbound link, or of an upstream of it
pub record LinkMayCome (x : Machine) (l : ℕ) (entry : Entry) : Type 0 where
  pub birth : BirthMayCome x entry
  pub control : ControlRests x.control
  pub others : (k : ℕ) → k ≢ l → Lets (link_first (x.inbound l).phase entry) (x.inbound k)
  pub plain : (k : ℕ) → PlainLets (link_first (x.inbound l).phase entry) (x.plain k)
  pub gates : GatesLet (link_first (x.inbound l).phase entry) x

-- and one of a plain link, or of its upstream
pub record PlainMayCome (x : Machine) (l : ℕ) (entry : Entry) : Type 0 where
  pub birth : BirthMayCome x entry
  pub control : ControlRests x.control
  pub links : (k : ℕ) → Lets (is_act entry) (x.inbound k)
  pub others : (k : ℕ) → k ≢ l → PlainLets (is_act entry) (x.plain k)
  pub gates : GatesLet (is_act entry) x

-- and one of a link to a gateway
pub record GateMayCome (x : Machine) (g : ℕ) (entry : Entry) : Type 0 where
  pub birth : BirthMayCome x entry
  pub control : ControlRests x.control
  pub links : (k : ℕ) → Lets (gate_first (x.gates g).phase entry) (x.inbound k)
  pub plain : (k : ℕ) → PlainLets (gate_first (x.gates g).phase entry) (x.plain k)
  pub others : (k : ℕ) → k ≢ g → GateLets (gate_first (x.gates g).phase entry) (x.gates k)
  pub streams : (l : ℕ) → StreamRests x (x.plain l)

-- WHICH LINK TO A GATEWAY A TUNNEL TAKES: the one that was born first of those of its key that live and have room; no other is dialled, and
-- none of its links are refused for want of room, but where there is none of these

abbrev pub NoneOffersAmong : (ℕ → Gateway) → Key → Type 0
NoneOffersAmong gates key = (g : ℕ) → (gates g).key ≡ key → offers (gates g) ≡ false

abbrev pub NoneOffers : Machine → Key → Type 0
NoneOffers x key = NoneOffersAmong x.gates key

abbrev pub NoneOffersBelow : Machine → Key → ℕ → Type 0
NoneOffersBelow x key n = (g : ℕ) → g < n → (x.gates g).key ≡ key → offers (x.gates g) ≡ false

-- where the plain link goes by a gateway
abbrev pub IfThrough : Option Key → (Key → Type 0) → Type 0
IfThrough None P = ⊤
IfThrough (Some key) P = P key

abbrev pub DialsGate : Machine → ℕ → Type 0
DialsGate x l = IfThrough (key_of (x.plain l).aim) (NoneOffers x)

-- a link to the gateway of this key is due for the plain link a
pub record IsWantedFor (x : Machine) (a : ℕ) (key : Key) : Type 0 where
  pub due : (x.plain a).stage ≡ captured_link.due
  pub keyed : key_of (x.plain a).aim ≡ Some key
  pub none : NoneOffers x key

abbrev pub IsWanted : Machine → Entry → Key → Type 0
IsWanted x (e.Dialled g to (whys.Gateway a)) key = IsWantedFor x a key
IsWanted x entry key = ⊥

-- the run is stopped only where every request, opening and end of a tunnel got what it gets, and nothing more happens by itself on a
-- plain link or is to be told of one to a gateway
pub record StopMayCome (x : Machine) : Type 0 where
  pub links : (l : ℕ) → IsAnswered (x.inbound l)
  pub plain : (l : ℕ) → captured_calm.IsCalm (x.plain l)
  pub gates : (g : ℕ) → AllTold (x.gates g)

abbrev pub ControlGuard : Machine → point.Point → Type 0
ControlGuard x (point.entry e) = ControlMayCome x e
ControlGuard x (point.stopped cause) = StopMayCome x
ControlGuard x _ = ⊤

-- responses are applied and the run is stopped for all links at once. A link is turned away exactly where there are more than may be, and
-- a request finds all places taken exactly where they are
abbrev pub LinkGuard : NodeConfig → Machine → ℕ → Part → Type 0
LinkGuard g x l (part.entry e) = LinkMayCome x l e
LinkGuard g x l (part.up s e) = LinkMayCome x l e
LinkGuard g x l part.welcomed = LinksBurst false g x
LinkGuard g x l part.crowded = LinksBurst true g x
LinkGuard g x l (part.decided s full answer) = PlacesFull full g x
LinkGuard g x l (part.applied r) = ⊥
LinkGuard g x l (part.stopped cause) = ⊥
LinkGuard g x l _ = ⊤

-- what the answer to a header goes by, beside what is held
abbrev pub routing_of : NodeConfig → Machine → Routing
routing_of g x = record { opens = x.opens; hbone_port = g.hbone_port }

-- a link to a gateway is dialled for it only where one more may be
abbrev pub MayDialGate : NodeConfig → Machine → ℕ → Type 0
MayDialGate g x l = IfThrough (key_of (x.plain l).aim) (λ key. LinksFull false g x)

-- what happens to a plain link and its stream at once is of the stream's points
abbrev pub PlainGuard : NodeConfig → Machine → ℕ → captured_part.Part → Type 0
PlainGuard g x l (captured_part.entry e) = PlainMayCome x l e
PlainGuard g x l (captured_part.up e) = PlainMayCome x l e × DialsGate x l × MayDialGate g x l
PlainGuard g x l captured_part.welcomed = PlacesBurst false g x
PlainGuard g x l captured_part.crowded = PlacesBurst true g x
PlainGuard g x l (captured_part.fronted seen routing aim) = routing ≡ routing_of g x
PlainGuard g x l (captured_part.refused seen routing why status note) = routing ≡ routing_of g x
PlainGuard g x l captured_part.roomless = DialsGate x l × LinksFull true g x
PlainGuard g x l (captured_part.asked gate stream) = ⊥
PlainGuard g x l (captured_part.hears heard begun) = ⊥
PlainGuard g x l (captured_part.put bytes) = ⊥
PlainGuard g x l captured_part.finished = ⊥
PlainGuard g x l (captured_part.credited n) = ⊥
PlainGuard g x l (captured_part.loosed begun) = ⊥
PlainGuard g x l (captured_part.completed begun note) = ⊥
PlainGuard g x l (captured_part.applied r) = ⊥
PlainGuard g x l (captured_part.stopped cause) = ⊥
PlainGuard g x l _ = ⊤

abbrev pub GateGuard : NodeConfig → Machine → ℕ → gateway_part.Part → Type 0
GateGuard c x g (gateway_part.entry e) = GateMayCome x g e
GateGuard c x g (gateway_part.dialled e key) = GateMayCome x g e × IsWanted x e key × LinksFull false c x
GateGuard c x g (gateway_part.asks s captured authority) = ⊥
GateGuard c x g (gateway_part.tells s heard begun) = ⊥
GateGuard c x g (gateway_part.put s bytes count) = ⊥
GateGuard c x g (gateway_part.finished s) = ⊥
GateGuard c x g (gateway_part.credited s n) = ⊥
GateGuard c x g (gateway_part.dropped s begun) = ⊥
GateGuard c x g (gateway_part.done s begun) = ⊥
GateGuard c x g (gateway_part.stopped cause) = ⊥
GateGuard c x g _ = ⊤

-- the stream of a plain link
pub record IsStreamOf (x : Machine) (l g s : ℕ) : Type 0 where
  pub gate : (x.plain l).gate ≡ g
  pub number : (x.plain l).stream ≡ s

-- a stream is asked for as the plain link's aim says, on the first link of its key that has room
pub record Asks (x : Machine) (l g : ℕ) (authority : Target) : Type 0 where
  pub endpoint : List ℕ
  pub aim : (x.plain l).aim ≡ through (x.gates g).key authority endpoint
  pub first : NoneOffersBelow x (x.gates g).key g

abbrev pub StreamGuard : Machine → (l g s : ℕ) → Shared → Type 0
StreamGuard x l g s (asks authority) = Asks x l g authority
StreamGuard x l g s (puts waiting count) = IsStreamOf x l g s × (waiting ≡ (x.plain l).ways.up.held)
StreamGuard x l g s (credits n) =
    IsStreamOf x l g s × (n ≡ min (x.plain l).owed (creditable (x.gates g).conn s))
StreamGuard x l g s w = IsStreamOf x l g s

-- WHAT A POINT MAKES OF THE MACHINE, WHERE IT MAY COME NEXT
abbrev pub Steps : NodeConfig → Machine → Point → Machine → Type 0
Steps g x (of_control q) y =
    (next : control.Machine) × model.Steps g x.control q next × ControlGuard x q × (y ≡ with_control q next x)
Steps g x (of_link l p) y =
    (next : Inbound) × inbound.Steps l (local x l) p (inbound.with_link next (local x l)) × LinkGuard g x l p
    × (y ≡ with_part l p next x)
Steps g x (of_plain l p) y =
    captured.MayGo l (plain_local x l) p × PlainGuard g x l p × (y ≡ with_plain l p (captured.next_link (x.plain l) p) x)
Steps g x (of_gate n p) y =
    (next : Gateway) × gateway_runs.Steps n (x.gates n) p next × GateGuard g x n p × (y ≡ with_gate n p next x)
Steps g x (of_stream l n s w) y =
    captured.MayGo l (plain_local x l) (captured_side n s w)
    × (next : Gateway) × gateway_runs.Steps n (x.gates n) (gateway_side l s w) next × StreamGuard x l n s w
    × (y ≡ with_stream l n (captured.next_link (x.plain l) (captured_side n s w)) next x)

-- a machine stands for the points of a run that leads to it
pub data StandsFor (g : NodeConfig) : Machine → List Point → Type 0 where
  begins : {x : Machine} {points : List Point} → x ≡ fresh g → points ≡ [] → StandsFor g x points
  goes_on : {x y : Machine} {points more : List Point} → StandsFor g x points → (p : Point) → Steps g x p y
      → more ≡ points ++ p ∷ [] → StandsFor g y more
