-- What a link and its stream do at once, while it isn't known yet of all links that nothing more does. No public clause cites this file.
use Rattle.std.specs.Prelude.{◌≡◌, ◌≢◌, ◌⊎◌, ℕ, ◌+◌, ◌<◌, ◌≤◌, ◌^◌, ◌==◌, ◌||◌, not, Bool, true, false, List, Option, Some, None, IsSome}
use Rattle.std.specs.FinMap.{FinMap, get}
use Rattle.std.specs.Ordering.{nat_cmp}
use Rattle.hb_captured.specs.Answer.{key_of}
use Rattle.hb_captured.specs.Captured.{Captured, due}
use Rattle.hb_base.specs.declared.target.Target.{Target}
use Rattle.hb_gate.specs.Observed.{offers_on}
use Rattle.hb_gate.specs.declared.gate.Gate.{Gate}
use Rattle.hb_gateway.specs.Calm as gateway_calm
use Rattle.hb_gateway.specs.Gateway.{Gateway, offers}
use Rattle.hb_gateway.specs.Key.{Key}
use Rattle.hb_gateway.specs.Part.{Part}
use Rattle.hb_gateway.specs.Runs as gateway
use Rattle.hb_link.specs.Noted.{Told, Takes}
use Rattle.hb_map.specs.Keyed.{IsFirstFrom}
use Rattle.hb_model.specs.declared.config.NodeConfig.{NodeConfig}
use Rattle.hb_proxy.specs.Load.{LinksFull}
use Rattle.hb_proxy.specs.Machine.{Machine, Outward, outward}
use Rattle.hb_proxy.specs.Notes.{notes}
use Rattle.hb_proxy.specs.Points.{Point}
use Rattle.hb_proxy.specs.Runs.{Asks, StandsFor, RestsAmong, IfThrough, NoneOffersAmong}
use Rattle.hb_relay.specs.Answering.{routing_of}
use Rattle.hb_relays.specs.Reaches.{FindsRoom, IsInner, IsRefusing, LeadsBy}
use Rattle.hb_relays.specs.Shows.{IsIdle, IsIndex, ShowsRelay, ShowsGate}
use Rattle.hb_relays.specs.Touched.{is_touched}
use Rattle.hb_relays.specs.declared.relays.Relays.{Relays}

-- the links to gateways of the code
abbrev pub Gates : Type 0
Gates = FinMap nat_cmp Gate

-- a set of links, by their numbers: all of them; and with one more
abbrev pub Links : Type 0
Links = ℕ → Bool

abbrev pub all : Links
all k = true

abbrev pub also : ℕ → Links → Links
also l links k = k == l || links k

abbrev pub but : ℕ → Links
but n k = not (k == n)

-- and of links by their numbers and what they are: all; those of another link to a gateway; and with one more
abbrev pub Streams : Type 0
Streams = ℕ → Captured → Bool

abbrev pub every : Streams
every k x = true

abbrev pub not_of : ℕ → Streams
not_of n k x = not (x.gate == n)

abbrev pub with_link : ℕ → Streams → Streams
with_link l streams k x = k == l || streams k x

-- Of what goes out by itself the code shows all; but only of these links it is known that they find no room where they wait for a link to a
-- gateway, of these streams that nothing more can be put on them, and of these links to gateways that nothing more happens there
pub record ShowsSome (waiting : Links) (resting : Streams) (calm : Links) (g : NodeConfig) (k : Relays) (x : Outward) : Type 0 where
  pub relays : (l : ℕ) → ShowsRelay l (get k.relays l) (x.plain l)
  pub index : IsIndex k.ups x.plain
  pub numbered : (l : ℕ) → IsSome (get k.relays l) → l < 2 ^ 64
  pub idle : (l : ℕ) → is_touched k.due l ≡ false → IsIdle (x.plain l)
  pub counted : routing_of k.routes ≡ record { opens = x.opens; hbone_port = g.hbone_port }
  pub gates : (n : ℕ) → ShowsGate n (get k.gates n) (x.gates n)
  pub gate_numbered : (n : ℕ) → IsSome (get k.gates n) → n < 2 ^ 64
  pub gate_idle : (n : ℕ) → is_touched k.gate_due n ≡ false → gateway_calm.close_due (x.gates n).phase ≡ None
  pub gates_calm : (n : ℕ) → calm n ≡ true → gateway_calm.IsCalm (x.gates n)
  pub streams : (l : ℕ) → resting l (x.plain l) ≡ true → RestsAmong x.gates (x.plain l)
  pub wanting : (l : ℕ) → waiting l ≡ true → (x.plain l).stage ≡ due → IfThrough (key_of (x.plain l).aim) (NoneOffersAmong x.gates)

-- Such points lead on from a machine to one that the code shows so, and none is due that wasn't
pub record GoesOnBy (I : Point → Type 0) (waiting : Links) (resting : Streams) (calm : Links) (g : NodeConfig) (x : Machine) (k : Relays)
    (told now : Told) : Type 0 where
  pub more : List Point
  pub reached : Machine
  pub leads : LeadsBy I g x more reached
  pub shows : ShowsSome waiting resting calm g k (outward reached)
  pub undue : (l : ℕ) → (x.plain l).stage ≢ due → (reached.plain l).stage ≢ due
  pub noted : Takes told (notes more) now

-- of points that follow by themselves
abbrev pub GoesOn : (waiting : Links) (resting : Streams) (calm : Links) → NodeConfig → Machine → Relays → Told → Told → Type 0
GoesOn waiting resting calm g x k told now = GoesOnBy IsInner waiting resting calm g x k told now

-- so it is for each run of the whole that was shown so, whatever is known of other links
abbrev pub OnRuns : Relays → (Links → Streams → NodeConfig → Machine → Type 0) → Type 0
OnRuns old P =
    (waiting : Links) (resting : Streams) (g : NodeConfig) (x : Machine) (points : List Point) → StandsFor g x points
    → ShowsSome waiting resting all g old (outward x) → P waiting resting g x

-- A LINK THAT WANTS ONE GETS ITS STREAM: where it still waits behind that, none has room for it, and nothing was done
abbrev pub Joins : ℕ → Relays → Relays → Type 0
Joins l old new =
    OnRuns old (λ w r g x. (told : Told) → (goes : GoesOn (also l w) r all g x new told told)
    × ((goes.reached.plain l).stage ≡ due → goes.reached ≡ x))

-- one for which none has room, and none may be dialled, is refused
abbrev pub Refuses : ℕ → (room : Bool) → Relays → Told → Relays → Told → Type 0
Refuses l room old told new now =
    (resting : Streams) (g : NodeConfig) (x : Machine) (points : List Point) → StandsFor g x points
    → ShowsSome all resting all g old (outward x) → ((x.plain l).stage ≡ due → LinksFull (not room) g x)
    → (goes : GoesOnBy IsRefusing all resting all g x new told now) × FindsRoom room (goes.reached.plain l)

-- WHICH LINK TO A GATEWAY IT TAKES: of whatever machines those of the code show, each of a run, the first one for a key that has room
pub record AreShown (gates : Gates) (f : ℕ → Gateway) : Type 0 where
  pub runs : (n : ℕ) → (parts : List Part) × gateway.StandsFor n (f n) parts
  pub shown : (n : ℕ) → ShowsGate n (get gates n) (f n)
  pub numbered : (n : ℕ) → IsSome (get gates n) → n < 2 ^ 64

-- the code has one that has room
abbrev pub HasRoom : Option Gate → Type 0
HasRoom None = ⊥
HasRoom (Some kept) = offers_on kept ≡ true

-- the one of a number is for a key and has room, or isn't or hasn't
abbrev pub OffersOn : Bool → Key → Gateway → Type 0
OffersOn true key y = (y.key ≡ key) × (offers y ≡ true)
OffersOn false key y = y.key ≡ key → offers y ≡ false

pub record OffersAt (gates : Gates) (n : ℕ) (key : Key) (is : Bool) : Type 0 where
  pub room : is ≡ true → HasRoom (get gates n)
  pub shown : (f : ℕ → Gateway) → AreShown gates f → OffersOn is key (f n)

-- the least number behind this one; behind the greatest of 64 bits there is none
abbrev pub IsBehind : {T : Type 0} → FinMap nat_cmp T → ℕ → Option ℕ → Type 0
IsBehind m n next = IsFirstFrom m (n + 1) next ⊎ ((next ≡ None) × (2 ^ 64 ≤ n + 1))

pub record IsFirst (key : Key) (n : ℕ) (f : ℕ → Gateway) : Type 0 where
  pub keyed : (f n).key ≡ key
  pub room : offers (f n) ≡ true
  pub below : (j : ℕ) → j < n → (f j).key ≡ key → offers (f j) ≡ false

abbrev pub FirstOffers : Gates → Key → Option ℕ → Type 0
FirstOffers gates key None = (f : ℕ → Gateway) → AreShown gates f → NoneOffersAmong f key
FirstOffers gates key (Some n) = HasRoom (get gates n) × ((f : ℕ → Gateway) → AreShown gates f → IsFirst key n f)

-- of whatever run the code shows: the link waits, and finds none; or it finds this one, for this authority
abbrev pub OfRuns : Relays → (Machine → Type 0) → Type 0
OfRuns k P =
    (waiting : Links) (resting : Streams) (g : NodeConfig) (x : Machine) (points : List Point) → StandsFor g x points
    → ShowsSome waiting resting all g k (outward x) → P x

pub record AsksOn (l n : ℕ) (authority : Target) (x : Machine) : Type 0 where
  pub waits : (x.plain l).stage ≡ due
  pub asks : Asks x l n authority
  pub room : offers (x.gates n) ≡ true

abbrev pub MayAsk : ℕ → Relays → Option (ℕ × Target) → Type 0
MayAsk l k None = OfRuns k (λ x. (x.plain l).stage ≡ due → IfThrough (key_of (x.plain l).aim) (NoneOffersAmong x.gates))
MayAsk l k (Some at) = IsSome (get k.relays l) × HasRoom (get k.gates at.0) × OfRuns k (AsksOn l at.0 at.1)

-- it waits for one to a gateway
pub record WaitsFor (l : ℕ) (x : Machine) : Type 0 where
  pub waits : (x.plain l).stage ≡ due
  pub keyed : IsSome (key_of (x.plain l).aim)

abbrev pub WaitsIf : Bool → ℕ → Machine → Type 0
WaitsIf true l x = WaitsFor l x
WaitsIf false l x = (x.plain l).stage ≡ due → key_of (x.plain l).aim ≡ None

abbrev pub IsWanting : ℕ → Relays → Bool → Type 0
IsWanting l k is = OfRuns k (WaitsIf is l)
