-- What comes on a link to a gateway, and what tunnels are told of it. No public clause cites this file.
use Rattle.std.specs.Prelude.{⊤, ◌≡◌, ℕ, ◌+◌, Bool, true, false, List, Option, Some, None, IsSome}
use Rattle.std.specs.FinMap.{get}
use Rattle.hb_base.specs.declared.note.Note.{Note}
use Rattle.hb_captured.specs.Part.{hears, note_if}
use Rattle.hb_captured.specs.Runs.{counted}
use Rattle.hb_conn.specs.Connection.{Connection}
use Rattle.hb_conn.specs.Observed.{IsLookedAt}
use Rattle.hb_gate.specs.Calls.{IsTold as GateIsTold, MayLook, Serves}
use Rattle.hb_gate.specs.Looking.{Looks, left_to_look}
use Rattle.hb_gate.specs.Streams.{IsNext, TakesMail}
use Rattle.hb_gate.specs.declared.gate.Gate.{Gate}
use Rattle.hb_gate.specs.declared.looking.Look.{Look}
use Rattle.hb_gate.specs.declared.looking.Look.TheVariants as look
use Rattle.hb_gate.specs.declared.looking.Mail.{Mail}
use Rattle.hb_gateway.specs.Calm.{AllReset, AllTold}
use Rattle.hb_gateway.specs.Gateway as gateway
use Rattle.hb_gateway.specs.Gateway.{Gateway, Phase, stage_of}
use Rattle.hb_gateway.specs.Response.{Heard, opens, brings, ends}
use Rattle.hb_link.specs.Noted.{Told, Takes}
use Rattle.hb_model.specs.declared.config.NodeConfig.{NodeConfig}
use Rattle.hb_proxy.specs.Machine.{Machine, Outward, outward}
use Rattle.hb_proxy.specs.Points.{Point}
use Rattle.hb_proxy.specs.Runs.{StandsFor}
use Rattle.hb_relay.specs.Answering.{routing_of}
use Rattle.hb_relay.specs.Calls.{any}
use Rattle.hb_relay.specs.Reaches.{Meets}
use Rattle.hb_relay.specs.Streamed.{HearsFailure}
use Rattle.hb_relay.specs.declared.relay.Relay.{Relay}
use Rattle.hb_relay.specs.declared.routes.Routes.{Routes}
use Rattle.hb_relays.specs.Joining.{ShowsSome, GoesOn, all, but, every, not_of}
use Rattle.hb_relays.specs.Leaving.{Resets}
use Rattle.hb_relays.specs.Pumping.{NoneDue}
use Rattle.hb_relays.specs.Walks.{changed, gate_touched_at, routes_with, touched_at, with_gate}
use Rattle.hb_relays.specs.declared.relays.Relays.{Relays}

-- All is shown, but on this link to a gateway something may still happen, and its streams may move
abbrev pub ShowsOpen : ℕ → NodeConfig → Relays → Outward → Type 0
ShowsOpen n g k x = ShowsSome all (not_of n) (but n) g k x

-- such points lead on to where that is so, and this holds of the link
pub record GoesOpen (n : ℕ) (Q : Gateway → Type 0) (g : NodeConfig) (x : Machine) (k : Relays) (told now : Told) : Type 0 where
  pub goes : GoesOn all (not_of n) (but n) g x k told now
  pub here : Q (goes.reached.gates n)

-- from each run of the whole, by the link as it was
abbrev pub OnOpen : ℕ → Relays → (NodeConfig → Machine → Type 0) → Type 0
OnOpen n old P = (g : NodeConfig) (x : Machine) (points : List Point) → StandsFor g x points → ShowsOpen n g old (outward x) → P g x

-- THE MAIL OF ITS TUNNELS: that on a stream is taken, where there is some
abbrev pub MailOn : Option Gate → (n s : ℕ) → Option Mail → Relays → Relays → Type 0
MailOn None n s result old new = (result ≡ None) × (new ≡ old)
MailOn (Some kept) n s result old new = (after : Gate) × TakesMail s kept result after × (new ≡ with_gate n after old)

abbrev pub MailAt : (n s : ℕ) → Option Mail → Relays → Relays → Type 0
MailAt n s result old new = MailOn (get old.gates n) n s result old new

-- the least stream behind one
abbrev pub BehindOn : Option Gate → ℕ → Option ℕ → Type 0
BehindOn None s result = result ≡ None
BehindOn (Some kept) s result = IsNext kept.streams (s + 1) result

abbrev pub IsBehind : Relays → (n s : ℕ) → Option ℕ → Type 0
IsBehind k n s result = BehindOn (get k.gates n) s result

-- its captured link is told
abbrev pub DeliversTo : Option Relay → Mail → Relays → Told → Relays → Told → Type 0
DeliversTo None mail old told new now = (new ≡ old) × (now ≡ told)
DeliversTo (Some link) mail old told new now =
    (after : Relay) × (routes : Routes) × (made : Option Note)
    × HearsFailure mail.cause mail.begun link (routing_of old.routes) after (routing_of routes) made
    × (new ≡ touched_at mail.link (routes_with routes (changed mail.link after old))) × Takes told (note_if made) now

abbrev pub Delivers : Mail → Relays → Told → Relays → Told → Type 0
Delivers mail old told new now = DeliversTo (get old.relays mail.link) mail old told new now

abbrev pub TellsBy : Option Mail → Relays → Told → Relays → Told → Type 0
TellsBy None old told new now = (new ≡ old) × (now ≡ told)
TellsBy (Some mail) old told new now = Delivers mail old told new now

-- WHAT A TUNNEL HEARS: its captured link is told, behind so many bytes that have begun to go
abbrev pub HearsOn : Heard → (begun l : ℕ) → Option Relay → Relays → Told → Relays → Told → Type 0
HearsOn heard begun l None old told new now = (new ≡ old) × (now ≡ told)
HearsOn heard begun l (Some link) old told new now =
    (after : Relay) × (routes : Routes) × (made : Option Note)
    × ((n : ℕ) → counted n ≡ begun → Meets any (hears heard n) link (routing_of old.routes) after (routing_of routes) made)
    × (new ≡ touched_at l (routes_with routes (changed l after old))) × Takes told (note_if made) now

abbrev pub Hears : Heard → (begun l : ℕ) → Relays → Told → Relays → Told → Type 0
Hears heard begun l old told new now = HearsOn heard begun l (get old.relays l) old told new now

-- what was found, of which a tunnel is told or none; how many bytes have begun to go matters where it ends alone
abbrev pub HearsLook : Look → List ℕ → Relays → Told → Relays → Told → Type 0
HearsLook look.Nothing bytes old told new now = (new ≡ old) × (now ≡ told)
HearsLook look.Passed bytes old told new now = (new ≡ old) × (now ≡ told)
HearsLook look.Lacked bytes old told new now = (new ≡ old) × (now ≡ told)
HearsLook (look.Opens s l end) bytes old told new now = (begun : ℕ) → Hears (opens end) begun l old told new now
HearsLook (look.Brings s l) bytes old told new now = (begun : ℕ) → Hears (brings bytes) begun l old told new now
HearsLook (look.Ends s l) bytes old told new now = (begun : ℕ) → Hears ends begun l old told new now
HearsLook (look.Fails mail) bytes old told new now = Delivers mail old told new now

-- where there was some
abbrev pub TellsAt : (n s : ℕ) → Relays → Told → Relays → Told → Type 0
TellsAt n s old told new now =
    (result : Option Mail) × (mid : Relays) × MailAt n s result old mid × TellsBy result mid told new now

-- none is left to be told; that it isn't so tells nothing
abbrev pub ToldOn : Option Gate → Bool → Type 0
ToldOn None told = ⊤
ToldOn (Some kept) told = GateIsTold kept told

abbrev pub ToldAt : ℕ → Relays → Bool → Type 0
ToldAt n k told = ToldOn (get k.gates n) told

-- behind that each was told, and nothing else of the link changed
pub record IsTold (x y : Gateway) : Type 0 where
  pub told : AllTold y
  pub phase : y.phase ≡ x.phase
  pub conn : y.conn ≡ x.conn
  pub stages : (s : ℕ) → stage_of y s ≡ stage_of x s

abbrev pub Settles : ℕ → Relays → Told → Relays → Told → Type 0
Settles n old told new now =
    IsSome (get old.gates n) → OnOpen n old (λ g x. GoesOpen n (IsTold (x.gates n)) g x new told now)

-- ITS STREAMS ARE RESET whose tunnels' ends ask for that
abbrev pub ResetsOn : Option Gate → ℕ → Relays → Relays → Type 0
ResetsOn None n old new = new ≡ old
ResetsOn (Some kept) n old new = (after : Gate) × Resets kept after × (new ≡ gate_touched_at n (with_gate n after old))

abbrev pub ResetsGate : ℕ → Relays → Relays → Type 0
ResetsGate n old new = ResetsOn (get old.gates n) n old new

-- each tunnel was told, and each stream reset, while it lives; else nothing more happens
abbrev pub SettledBy : Phase → Gateway → Type 0
SettledBy gateway.opening x = AllReset x
SettledBy gateway.serving x = MayLook x
SettledBy phase x = ⊤

abbrev pub IsSettled : Gateway → Type 0
IsSettled x = AllTold x × SettledBy x.phase x

-- nothing is left to be looked at
abbrev pub LookedBy : Phase → Connection → Type 0
LookedBy gateway.serving conn = IsLookedAt conn
LookedBy phase conn = ⊤

abbrev pub IsLooked : Gateway → Type 0
IsLooked x = IsSettled x × LookedBy x.phase x.conn

-- WHAT IS FOUND there, where bytes come and go on it
abbrev pub ServesOn : Option Gate → Bool → Type 0
ServesOn None serves = serves ≡ false
ServesOn (Some kept) serves = Serves kept serves

abbrev pub ServesAt : ℕ → Relays → Bool → Type 0
ServesAt n k serves = ServesOn (get k.gates n) serves

abbrev pub FindsOn : Option Gate → ℕ → Look → List ℕ → Relays → Relays → Type 0
FindsOn None n found bytes old new = (found ≡ look.Nothing) × (new ≡ old)
FindsOn (Some kept) n found bytes old new =
    (after : Gate) × Looks found bytes kept after × (new ≡ gate_touched_at n (with_gate n after old))

abbrev pub FindsAt : ℕ → Look → List ℕ → Relays → Relays → Type 0
FindsAt n found bytes old new = FindsOn (get old.gates n) n found bytes old new

-- how much there still may be to be looked at of what came there
abbrev pub left_on : Option Gate → ℕ
left_on None = 0
left_on (Some kept) = left_to_look kept

abbrev pub left_at : ℕ → Relays → ℕ
left_at n k = left_on (get k.gates n)

-- ONE LOOK: more may be found behind it, or not
abbrev pub after_look : Bool → Gateway → Type 0
after_look true x = IsSettled x
after_look false x = IsLooked x

abbrev pub LooksOnce : ℕ → Bool → Relays → Told → Relays → Told → Type 0
LooksOnce n more old told new now =
    OnOpen n old (λ g x. NoneDue x → IsSettled (x.gates n) → GoesOpen n (after_look more) g x new told now)

-- all that came is looked at, and what may be put then is put
abbrev pub LooksAll : ℕ → Relays → Told → Relays → Told → Type 0
LooksAll n old told new now =
    OnOpen n old (λ g x. NoneDue x → IsSettled (x.gates n) → GoesOn all every all g x new told now)
