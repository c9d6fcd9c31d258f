-- What each call of a link to a gateway is to the machine.
use Rattle.std.specs.Prelude.{⊤, ◌≡◌, ◌↔◌, ℕ, ◌^◌, ◌<◌, Bool, true, false, IsTrue, if◌then◌else◌, List, length, min, Option, Some, None}
use Rattle.hb_base.specs.declared.cause.Cause.{Cause}
use Rattle.hb_base.specs.declared.target.Target.{Target}
use Rattle.hb_conn.specs.Observed.{IsLookedAt, creditable, count_put, end_waits, own_side_open}
use Rattle.hb_conn.specs.Observed as connection
use Rattle.hb_conn.specs.declared.found.Found.{Found}
use Rattle.hb_gateway.specs.Calm as calm
use Rattle.hb_gateway.specs.Calm.{AllReset, AllTold}
use Rattle.hb_gateway.specs.Gateway as m
use Rattle.hb_gateway.specs.Gateway.{Gateway, no_link, is_active, stage_of}
use Rattle.hb_gateway.specs.Key.{Key}
use Rattle.hb_gateway.specs.Part.{Part, entry, dialled, lacked, looked, asks, tells, put, finished, credited, reset, dropped, done}
use Rattle.hb_gateway.specs.Response.{Heard, fails, is_living, carrying}
use Rattle.hb_gateway.specs.Runs.{Steps, StandsFor}
use Rattle.hb_history.specs.Points as history
use Rattle.hb_hpack.specs.declared.header.Header.{Header}
use Rattle.hb_inbound.specs.Calm.{data_waits}
use Rattle.hb_inbound.specs.Runs.{counted}
use Rattle.hb_kept.specs.Kept.{Fares}
use Rattle.hb_world.specs.declared.act.Act.{Act}
use Rattle.hb_world.specs.declared.act.Act.TheVariants as act
use Rattle.hb_world.specs.declared.entry.Entry.{Entry}
use Rattle.hb_world.specs.declared.entry.Entry.TheVariants as e
use Rattle.hb_gate.specs.Shows.{Shows}
use Rattle.hb_gate.specs.declared.gate.Gate.{Gate}

-- OF EACH RUN OF THE LINK THAT THE CODE SHOWED
abbrev pub OnEach : Gate → (Gateway → Type 0) → Type 0
OnEach k P = (x : Gateway) (parts : List Part) → StandsFor k.number x parts → Shows k x → P x

-- a part may come there, and the code shows the run with it afterwards
pub record Goes (p : Part) (x : Gateway) (new : Gate) : Type 0 where
  pub next : Gateway
  pub steps : Steps new.number x p next
  pub shows : Shows new next

-- it is told a part: where that may come, it shows the run with it
abbrev pub Enters : Part → Gate → Gate → Type 0
Enters p old new = (new.number ≡ old.number) × OnEach old (λ x. (y : Gateway) → Steps old.number x p y → Shows new y)

-- it does a part by itself
abbrev pub Does : Part → Gate → Gate → Type 0
Does p old new = (new.number ≡ old.number) × OnEach old (λ x. Goes p x new)

-- nothing is done
abbrev pub Stays : Gate → Gate → Type 0
Stays old new = (new.number ≡ old.number) × OnEach old (Shows new)

-- BIRTH, AND THE CALLS OF THE WORLD

abbrev pub Begins : ℕ → Key → Gate → Type 0
Begins n key new = (call : Entry) (y : Gateway) → Steps n no_link (dialled call key) y → Shows new y

-- behind bytes that came there is room for all that they may need
abbrev pub FaresWith : List ℕ → Gate → Type 0
FaresWith bytes old =
    OnEach old (λ x. (y : Gateway) → Steps old.number x (entry (e.Came old.number bytes)) y → Fares y.conn)

-- so many bytes went
abbrev pub Went : ℕ → Gate → Gate → Type 0
Went n old new = (bytes : List ℕ) → length bytes ≡ n → Enters (entry (e.Went old.number bytes)) old new

-- WHAT IS KNOWN OF IT

abbrev pub IsFor : Gate → Key → Bool → Type 0
IsFor k key is = (x : Gateway) → Shows k x → (IsTrue is ↔ (x.key ≡ key))

abbrev pub Offers : Gate → Bool → Type 0
Offers k offers = OnEach k (λ x. offers ≡ m.offers x)

abbrev pub Serves : Gate → Bool → Type 0
Serves k serves = (x : Gateway) → Shows k x → (IsTrue serves ↔ (x.phase ≡ m.serving))

abbrev pub IsCarrying : Gate → Bool → Type 0
IsCarrying k carries = (x : Gateway) → Shows k x → carries ≡ m.carries x.phase

-- no tunnel is left to be told its end; that it isn't so tells nothing
abbrev pub IsTold : Gate → Bool → Type 0
IsTold k told = told ≡ true → (x : Gateway) → Shows k x → AllTold x

abbrev pub Wants : Gate → ℕ → Type 0
Wants k n = (x : Gateway) → Shows k x → n ≡ calm.wants x

abbrev pub Holds : Gate → List ℕ → Type 0
Holds k bytes = (x : Gateway) → Shows k x → bytes ≡ calm.output x

-- so many bytes of a tunnel that lives there, as far as notes tell them
abbrev pub HasBegun : Gate → ℕ → ℕ → Type 0
HasBegun k s n = (x : Gateway) → Shows k x → is_living (stage_of x s) ≡ true → counted (x.streams s).begun ≡ n

abbrev pub Carries : Gate → ℕ → Option ℕ → Type 0
Carries k s None = (x : Gateway) → Shows k x → (is_living (stage_of x s) ≡ false) × ((x.streams s).mail ≡ None)
Carries k s (Some link) = (x : Gateway) → Shows k x → (x.streams s).captured ≡ link

-- WHAT IS TOLD: a tunnel is told what it heard, which its stream's bytes that have begun to go go with, as far as notes tell them

-- by itself, of what was heard before
pub record TellsOf (stream : ℕ) (heard : Heard) (begun link : ℕ) (x : Gateway) (new : Gate) : Type 0 where
  pub captured : (x.streams stream).captured ≡ link
  pub count : ℕ
  pub counted_is : counted count ≡ begun
  pub tells : Goes (tells stream heard count) x new

-- a look at what came: nothing is left to be looked at, or something was looked at, of which no tunnel or one is told at once
pub record LooksOn (x y : Gateway) (number : ℕ) : Type 0 where
  pub points : List history.Point
  pub told : Found
  pub headers : List Header
  pub looks : Steps number x (looked points told headers) y

-- each stream whose tunnel's end asks for that is reset, one after another
pub data Resets (l : ℕ) : Gateway → Gateway → Type 0 where
  none : {x y : Gateway} → y ≡ x → Resets l x y
  more : {x mid y : Gateway} (s code : ℕ) → Steps l x (reset s code) mid → Resets l mid y → Resets l x y

-- there is room for all that the frames held may still need, once the streams are reset whose tunnels' ends ask for that
abbrev pub FaresBy : m.Phase → ℕ → Gateway → Type 0
FaresBy m.serving l x = (y : Gateway) → Resets l x y → AllReset y → Fares y.conn
FaresBy phase l x = ⊤

abbrev pub FaresOn : ℕ → Gateway → Type 0
FaresOn l x = FaresBy x.phase l x

-- it may be looked at what came: each tunnel was told, each stream reset, and there is room
pub record MayLook (x : Gateway) : Type 0 where
  pub serves : x.phase ≡ m.serving
  pub reset : AllReset x
  pub told : AllTold x
  pub fares : Fares x.conn

-- what lies between stays of what came
pub record LooksInto (l : ℕ) (x y : Gateway) : Type 0 where
  pub looks : LooksOn x y l
  pub fares : FaresOn l y

abbrev pub LooksNothing : Gate → Gate → Type 0
LooksNothing old new =
    (new.number ≡ old.number)
    × OnEach old (λ x. MayLook x → (y : Gateway) × LooksInto old.number x y × Shows new y × IsLookedAt y.conn)

abbrev pub LooksPast : Gate → Gate → Type 0
LooksPast old new = (new.number ≡ old.number) × OnEach old (λ x. MayLook x → (y : Gateway) × LooksInto old.number x y × Shows new y)

abbrev pub LooksTold : (stream : ℕ) → Heard → (begun link : ℕ) → Gate → Gate → Type 0
LooksTold s heard begun link old new =
    (new.number ≡ old.number)
    × OnEach old (λ x. MayLook x → (y : Gateway) × LooksInto old.number x y × TellsOf s heard begun link y new)

-- memory lacks for a header block: the link is to be closed for that, and each tunnel ends
abbrev pub LooksLacking : Gate → Gate → Type 0
LooksLacking old new = (new.number ≡ old.number) × OnEach old (λ x. MayLook x → Goes lacked x new)

-- the next tunnel that is to be told its end, or none is
abbrev pub TellsEnd : (stream : ℕ) → Cause → (begun link : ℕ) → Gate → Gate → Type 0
TellsEnd s why begun link old new = (new.number ≡ old.number) × OnEach old (λ x. TellsOf s (fails why) begun link x new)

abbrev pub TellsNone : Gate → Gate → Type 0
TellsNone old new = (new ≡ old) × OnEach old AllTold

-- a side of each is open
abbrev pub AreActive : Gateway → Type 0
AreActive x = (s : ℕ) → calm.is_failing (stage_of x s) ≡ true → is_active x.conn s ≡ true

abbrev pub ResetsAll : Gate → Gate → Type 0
ResetsAll old new =
    (new.number ≡ old.number)
    × OnEach old (λ x. m.carries x.phase ≡ true → AreActive x
    → (y : Gateway) × Resets old.number x y × Shows new y × AllReset y)

-- ON A STREAM

-- a tunnel of this captured link is asked for on it
abbrev pub Asks : (stream captured : ℕ) → Target → Gate → Gate → Type 0
Asks s captured authority old new =
    (new.number ≡ old.number) × OnEach old (λ x. m.offers x ≡ true → Goes (asks s captured authority) x new)

-- it carries bytes
abbrev pub OnCarrying : ℕ → Gate → (Gateway → Type 0) → Type 0
OnCarrying s k P = OnEach k (λ x. m.carries x.phase ≡ true → stage_of x s ≡ carrying → P x)

-- so many of these bytes are put, as many as may be while this end's side is open; where none may be nothing is done
abbrev pub Puts : ℕ → List ℕ → (count : ℕ) → Gate → Gate → Type 0
Puts s bytes count old new =
    (new.number ≡ old.number)
    × OnCarrying s old (λ x. (count ≡ (if own_side_open x.conn s then count_put x.conn s bytes else 0))
    × (count ≡ 0 → Shows new x) × (0 < count → Goes (put s bytes count) x new))

-- nothing waits to be written, so that bytes may be put
abbrev pub MayPut : Gate → Bool → Type 0
MayPut k may = (x : Gateway) → Shows k x → m.carries x.phase ≡ true → (IsTrue may ↔ (length (connection.output x.conn) ≡ 0))

-- END_STREAM may be put; both sides ended, and END_STREAM went, whole
abbrev pub MayFinish : ℕ → Gate → Bool → Type 0
MayFinish s k may = OnCarrying s k (λ x. (IsTrue may ↔ ((own_side_open x.conn s ≡ true) × (data_waits x.conn s ≡ false))))

abbrev pub IsThrough : ℕ → Gate → Bool → Type 0
IsThrough s k through = OnCarrying s k (λ x. (IsTrue through ↔ ((is_active x.conn s ≡ false) × (end_waits x.conn s ≡ false))))

abbrev pub Finishes : ℕ → Gate → Gate → Type 0
Finishes s old new =
    (new.number ≡ old.number)
    × OnCarrying s old (λ x. own_side_open x.conn s ≡ true → data_waits x.conn s ≡ false → Goes (finished s) x new)

-- as many of so many bytes as came are given back
abbrev pub Credits : ℕ → (n : ℕ) → Gate → Gate → Type 0
Credits s n old new =
    (new.number ≡ old.number)
    × OnCarrying s old (λ x. (creditable x.conn s < 2 ^ 32) × Goes (credited s (min n (creditable x.conn s))) x new)

-- the captured link ended the tunnel; or it is done
abbrev pub Drops : ℕ → (begun : ℕ) → Gate → Gate → Type 0
Drops s begun old new =
    (new.number ≡ old.number)
    × OnEach old (λ x. is_living (stage_of x s) ≡ true → (x.streams s).mail ≡ None
    → (count : ℕ) × (counted count ≡ begun) × Goes (dropped s count) x new)

abbrev pub IsDone : ℕ → (begun : ℕ) → Gate → Gate → Type 0
IsDone s begun old new =
    (new.number ≡ old.number)
    × OnCarrying s old (λ x. is_active x.conn s ≡ false → end_waits x.conn s ≡ false → (x.streams s).mail ≡ None
    → (count : ℕ) × (counted count ≡ begun) × Goes (done s count) x new)

-- CALLS THAT ARE DUE: its close, which counts as done

abbrev pub Acts : Option Act → Gate → Gate → Type 0
Acts None old new = (new ≡ old) × OnEach old (λ x. calm.close_due x.phase ≡ None)
Acts (Some (act.Close n why)) old new =
    (n ≡ old.number) × (new.number ≡ old.number)
    × OnEach old (λ x. calm.IsCalm x → Goes (entry (e.Closed n why)) x new)
Acts (Some call) old new = ⊥
