-- What each call of all links is to the machine.
use Rattle.std.specs.Prelude.{⊤, ◌≡◌, ℕ, Bool, true, false, List, [], length, Option, Some, None}
use Rattle.std.specs.FinMap.{get, len}
use Rattle.hb_base.specs.declared.cause.Cause.{Cause}
use Rattle.hb_base.specs.declared.door.Door.TheVariants as door
use Rattle.hb_base.specs.declared.door.Why.{Why}
use Rattle.hb_base.specs.declared.target.Target.{Target}
use Rattle.hb_disco.specs.declared.response.Response.{Response}
use Rattle.hb_held.specs.Held.{Resources}
use Rattle.hb_held.specs.Outcome.{after_response}
use Rattle.hb_inbound.specs.Calm.{wants_by, output_by}
use Rattle.hb_inbound.specs.Inbound.{Inbound}
use Rattle.hb_inbound.specs.Part as part
use Rattle.hb_inbound.specs.Part.{Part}
use Rattle.hb_link.specs.Calls.{IsLastWord}
use Rattle.hb_link.specs.Counting.{CountsPlaces, taking_in}
use Rattle.hb_link.specs.Noted.{Told}
use Rattle.hb_link.specs.Observed.{wants_on, output_on, up_wants_on, up_held_on, up_wants_by, up_held_by, says_last}
use Rattle.hb_link.specs.declared.link.Link.{Link}
use Rattle.hb_model.specs.Point as point
use Rattle.hb_model.specs.declared.config.NodeConfig.{NodeConfig}
use Rattle.hb_proxy.specs.Load.{LinksFull}
use Rattle.hb_proxy.specs.Machine.{Machine}
use Rattle.hb_proxy.specs.Points.{Point, of_control, of_link}
use Rattle.hb_proxy.specs.Runs.{Steps, StandsFor}
use Rattle.hb_world.specs.declared.entry.Entry.{Entry}
use Rattle.hb_world.specs.declared.entry.Entry.TheVariants as e
use Rattle.hb_links.specs.declared.links.Links.{Links}
use Rattle.hb_links.specs.declared.place.Place.{Place}
use Rattle.hb_links.specs.Load.{IsCounted, LeavesPlaces}
use Rattle.hb_links.specs.Reaches.{Guard, on_links, uncounted, Meets}
use Rattle.hb_links.specs.Shows.{ShowsAll}

-- ENTRIES

-- what an entry on the link of a number is: of a tunnel, whose upstream that is, or of an inbound link
abbrev pub point_by : Option Place → Option Link → ℕ → Entry → Option Point
point_by (Some at) link n x = Some (of_link at.link (part.up at.stream x))
point_by None (Some link) n x = Some (of_link n (part.entry x))
point_by None None n x = None

abbrev pub point_for : Links → ℕ → Entry → Option Point
point_for k n x = point_by (get k.ups n) (get k.links n) n x

abbrev pub Enters : ℕ → Entry → Links → Told → Links → Told → Type 0
Enters n x old told new now = (p : Point) → point_for old n x ≡ Some p → Meets uncounted (λ g m. ⊤) p old told new now

-- some bytes of so many went
abbrev pub Goes : (n count : ℕ) → Links → Told → Links → Told → Type 0
Goes n count old told new now = (bytes : List ℕ) → length bytes ≡ count → Enters n (e.Went n bytes) old told new now

-- of a request on a link that is read it is said how many places were taken
abbrev pub counting : (others limit : ℕ) → Point → Guard
counting others limit (of_link l (part.entry x)) = on_links (CountsPlaces others limit)
counting others limit p = uncounted

-- bytes came, while this was held, and the limit of the tunnels of inbound links was what plain links leave
abbrev pub Takes : Resources → (others limit : ℕ) → ℕ → List ℕ → Links → Told → Links → Told → Type 0
Takes held others limit n bytes old told new now =
    (p : Point) → point_for old n (e.Came n bytes) ≡ Some p → IsCounted old
    → Meets (counting others limit p) (λ g m. (m.control.held ≡ held) × LeavesPlaces limit g m) p old told new now

-- a link is accepted where one more may be, and no note is made
abbrev pub Begins : ℕ → Links → Links → Type 0
Begins n old new =
    Meets (on_links taking_in) (λ g m. LinksFull false g m) (of_link n (part.entry (e.Accepted n door.Inbound))) old (Some []) new (Some [])

-- a link is accepted where as many are open as may be: behind its birth it is turned away
abbrev pub TurnsAway : ℕ → Links → Links → Type 0
TurnsAway n old new =
    (g : NodeConfig) (x y : Machine) (points : List Point) → StandsFor g x points → ShowsAll old x.inbound → LinksFull true g x
    → Steps g x (of_link n (part.entry (e.Accepted n door.Inbound))) y
    → (z : Machine) × Steps g y (of_link n part.crowded) z × ShowsAll new z.inbound

-- the dial for the tunnel on a stream of a link gave the link u, or none
abbrev pub Dials : (l s u : ℕ) → Links → Links → Type 0
Dials l s u old new =
    (to : Target) (why : Why) → Meets uncounted (λ g m. ⊤) (of_link l (part.up s (e.Dialled u to why))) old (Some []) new (Some [])

abbrev pub DialFails : (l s : ℕ) → Links → Told → Links → Told → Type 0
DialFails l s old told new now =
    (to : Target) (why : Why) → Meets uncounted (λ g m. ⊤) (of_link l (part.up s (e.DialFailed to why))) old told new now

-- a response on a link to the control plane is applied, which makes this of what was held
abbrev pub Updates : Resources → Links → Told → Links → Told → Type 0
Updates held old told new now =
    (l : ℕ) (r : Response)
    → Meets uncounted (λ g m. held ≡ after_response m.control.held r) (of_control (point.applied l r)) old told new now

-- the run ends
abbrev pub Stops : Cause → Links → Told → Links → Told → Type 0
Stops cause old told new now = Meets uncounted (λ g m. ⊤) (of_control (point.stopped cause)) old told new now

-- OBSERVATIONS OF THE CODE, AND OF THE MACHINES

abbrev pub wants_in : Option Link → ℕ
wants_in None = 0
wants_in (Some k) = wants_on k

abbrev pub up_wants_in : ℕ → Option Link → ℕ
up_wants_in s None = 0
up_wants_in s (Some k) = up_wants_on k s

abbrev pub wants_at : Links → Option Place → ℕ → ℕ
wants_at k None n = wants_in (get k.links n)
wants_at k (Some at) n = up_wants_in at.stream (get k.links at.link)

-- how many bytes may be read of the link of a number
abbrev pub wants_of : Links → ℕ → ℕ
wants_of k n = wants_at k (get k.ups n) n

abbrev pub machine_wants : (ℕ → Inbound) → Option Place → ℕ → ℕ
machine_wants f None n = wants_by (f n).phase (f n)
machine_wants f (Some at) n = up_wants_by ((f at.link).tunnels at.stream).stage ((f at.link).tunnels at.stream)

abbrev pub Wants : Links → ℕ → ℕ → Type 0
Wants k n count = (f : ℕ → Inbound) → ShowsAll k f → count ≡ machine_wants f (get k.ups n) n

abbrev pub output_in : Option Link → List ℕ
output_in None = []
output_in (Some k) = output_on k

abbrev pub up_held_in : ℕ → Option Link → List ℕ
up_held_in s None = []
up_held_in s (Some k) = up_held_on k s

abbrev pub held_at : Links → Option Place → ℕ → List ℕ
held_at k None n = output_in (get k.links n)
held_at k (Some at) n = up_held_in at.stream (get k.links at.link)

-- the bytes that wait to be written to the link of a number
abbrev pub held_of : Links → ℕ → List ℕ
held_of k n = held_at k (get k.ups n) n

abbrev pub machine_held : (ℕ → Inbound) → Option Place → ℕ → List ℕ
machine_held f None n = output_by (f n).phase (f n)
machine_held f (Some at) n = up_held_by ((f at.link).tunnels at.stream).stage ((f at.link).tunnels at.stream)

abbrev pub Holds : Links → ℕ → List ℕ → Type 0
Holds k n bytes = (f : ℕ → Inbound) → ShowsAll k f → bytes ≡ machine_held f (get k.ups n) n

-- how many inbound links are kept
abbrev pub count_of : Links → ℕ
count_of k = len k.links

-- what waits on an inbound link may be written before the acts that are due
abbrev pub last_at : Option Link → Bool
last_at None = false
last_at (Some k) = says_last k

abbrev pub LastWords : Links → ℕ → Bool → Type 0
LastWords k n waits = (f : ℕ → Inbound) → ShowsAll k f → (waits ≡ true → IsLastWord (f n)) × (IsLastWord (f n) → waits ≡ true)
