-- What each call of a link is to the machine.
use Rattle.std.specs.Prelude.{⊤, ◌≡◌, ℕ, ◌<◌, Bool, true, List, [], length, Some}
use Rattle.hb_base.specs.declared.cause.Cause.{Cause}
use Rattle.hb_base.specs.declared.door.Door.TheVariants as door
use Rattle.hb_disco.specs.declared.response.Response.{Response}
use Rattle.hb_held.specs.Held.{Resources}
use Rattle.hb_held.specs.Outcome.{after_response}
use Rattle.hb_world.specs.declared.entry.Entry.{Entry}
use Rattle.hb_world.specs.declared.entry.Entry.TheVariants as e
use Rattle.hb_inbound.specs.Calm.{wants_by, output_by}
use Rattle.hb_inbound.specs.Inbound.{Inbound, faulted}
use Rattle.hb_inbound.specs.Part.{Part, entry, up, crowded, applied, stopped}
use Rattle.hb_inbound.specs.Runs.{Local, Steps, StandsFor}
use Rattle.hb_link.specs.declared.link.Link.{Link}
use Rattle.hb_link.specs.Counting.{CountsPlaces, uncounted, taking_in}
use Rattle.hb_link.specs.Load.{HasLoad}
use Rattle.hb_link.specs.Noted.{Told}
use Rattle.hb_link.specs.Observed.{up_wants_by, up_held_by}
use Rattle.hb_link.specs.Reaches.{Reaches, Meets}
use Rattle.hb_link.specs.Shows.{Shows, ShowsTunnels}

-- ENTRIES

-- an entry of the upstream of a stream
abbrev pub UpEnters : ℕ → Entry → Link → Told → Link → Told → Type 0
UpEnters s x old told new now = Meets uncounted (λ a. ⊤) (up s x) old told new now

-- one of the link, and the end of the run
abbrev pub Enters : Entry → Link → Told → Link → Told → Type 0
Enters x old told new now = Meets uncounted (λ a. ⊤) (entry x) old told new now

abbrev pub Stops : Cause → Link → Told → Link → Told → Type 0
Stops cause old told new now = Meets uncounted (λ a. ⊤) (stopped cause) old told new now

-- some bytes of so many went
abbrev pub Goes : ℕ → Link → Told → Link → Told → Type 0
Goes n old told new now = (bytes : List ℕ) → length bytes ≡ n → Enters (e.Went old.number bytes) old told new now

abbrev pub UpGoes : ℕ → ℕ → Link → Told → Link → Told → Type 0
UpGoes s n old told new now = (u : ℕ) (bytes : List ℕ) → length bytes ≡ n → UpEnters s (e.Went u bytes) old told new now

-- bytes came, while this was held
abbrev pub Takes : Resources → (others limit : ℕ) → List ℕ → Link → Told → Link → Told → Type 0
Takes held others limit bytes old told new now =
    Meets (CountsPlaces others limit) (λ a. a.held ≡ held) (entry (e.Came old.number bytes)) old told new now

-- a response made this of what was held
abbrev pub Updates : Resources → Link → Told → Link → Told → Type 0
Updates held old told new now =
    (r : Response) → Meets uncounted (λ a. held ≡ after_response a.held r) (applied r) old told new now

-- a link is born, and makes no note
abbrev pub Begins : ℕ → Link → Type 0
Begins l k = (start : Resources) (before : List Part) (a b : Local) → StandsFor l start a before
    → Steps l a (entry (e.Accepted l door.Inbound)) b → Reaches taking_in l b k (Some []) (Some [])

-- a link is born where as many are open as may be: it is turned away
abbrev pub TurnsAway : ℕ → Link → Type 0
TurnsAway l k = (start : Resources) (before : List Part) (a b : Local) → StandsFor l start a before
    → Steps l a (entry (e.Accepted l door.Inbound)) b → (c : Local) × Steps l b crowded c × Shows k c.link

-- OBSERVATIONS OF THE MACHINES

-- how much may be read and written of the link, and of the upstream of a tunnel that lives
abbrev pub Wants : Link → ℕ → Type 0
Wants k n = (x : Inbound) → Shows k x → n ≡ wants_by x.phase x

abbrev pub Puts : Link → List ℕ → Type 0
Puts k bytes = (x : Inbound) → Shows k x → bytes ≡ output_by x.phase x

abbrev pub UpWants : Link → ℕ → ℕ → Type 0
UpWants k s n = (x : Inbound) → Shows k x → n ≡ up_wants_by (x.tunnels s).stage (x.tunnels s)

abbrev pub UpHolds : Link → ℕ → List ℕ → Type 0
UpHolds k s held = (x : Inbound) → Shows k x → held ≡ up_held_by (x.tunnels s).stage (x.tunnels s)

-- how many of its tunnels take a place
abbrev pub Loads : Link → ℕ → Type 0
Loads k n = (x : Inbound) → ShowsTunnels k x → HasLoad x n

-- a connection error was told, and what waits may be written before the acts that are due
abbrev pub IsLastWord : Inbound → Type 0
IsLastWord x = (code : ℕ) × (x.phase ≡ faulted code) × (0 < length (output_by x.phase x))

abbrev pub LastWords : Link → Bool → Type 0
LastWords k waits = (x : Inbound) → Shows k x → (waits ≡ true → IsLastWord x) × (IsLastWord x → waits ≡ true)
