-- What each call of a link is to the machine.
use Rattle.std.specs.Prelude.{⊤, ◌≡◌, ℕ, List, length, Option}
use Rattle.hb_base.specs.declared.cause.Cause.{Cause}
use Rattle.hb_base.specs.declared.door.Door.{Door}
use Rattle.hb_base.specs.declared.note.Note.{Note}
use Rattle.hb_disco.specs.declared.response.Response.{Response}
use Rattle.hb_held.specs.Held.{Resources}
use Rattle.hb_held.specs.Outcome.{after_response}
use Rattle.hb_world.specs.declared.entry.Entry.{Entry}
use Rattle.hb_world.specs.declared.entry.Entry.TheVariants as e
use Rattle.hb_captured.specs.Answer.{Routing}
use Rattle.hb_captured.specs.Captured.{no_link}
use Rattle.hb_captured.specs.Part.{Part, entry, up, welcomed, crowded, applied, stopped}
use Rattle.hb_captured.specs.Runs.{Local, MayGo, next, StandsFor, counted}
use Rattle.hb_relay.specs.declared.relay.Relay.{Relay}
use Rattle.hb_relay.specs.Reaches.{Inner, IsInner, leaving, Reaches, MeetsBy, Meets}
use Rattle.hb_relay.specs.Shows.{Shows}

abbrev pub any : Resources → Type 0
any held = ⊤

-- an entry of the link, or of its upstream, whatever that one's number is; from these counts to those
abbrev pub Enters : Entry → Relay → Routing → Relay → Routing → Option Note → Type 0
Enters x old before new behind made = Meets any (entry x) old before new behind made

abbrev pub UpEnters : Entry → Relay → Routing → Relay → Routing → Option Note → Type 0
UpEnters x old before new behind made = Meets any (up x) old before new behind made

-- so it is where it leaves its stream, of whose bytes so many have begun to go, as far as notes tell them
abbrev pub EntersLeaving : ℕ → Entry → Relay → Routing → Relay → Routing → Option Note → Type 0
EntersLeaving begun x old before new behind made =
    (n : ℕ) → counted n ≡ begun → MeetsBy (leaving n) any (entry x) old before new behind made

-- so it is whatever the counts are, which stay
abbrev pub UpEntersStill : Entry → Relay → Relay → Option Note → Type 0
UpEntersStill x old new made = (routing : Routing) → UpEnters x old routing new routing made

-- bytes came, while this was held
abbrev pub Takes : Resources → List ℕ → Relay → Routing → Relay → Routing → Option Note → Type 0
Takes held bytes old before new behind made =
    Meets (λ h. h ≡ held) (entry (e.Came old.number bytes)) old before new behind made

-- so many bytes went
abbrev pub Goes : ℕ → Relay → Routing → Relay → Routing → Option Note → Type 0
Goes n old before new behind made = (bytes : List ℕ) → length bytes ≡ n → Enters (e.Went old.number bytes) old before new behind made

abbrev pub UpGoes : ℕ → Relay → Routing → Relay → Routing → Option Note → Type 0
UpGoes n old before new behind made =
    (u : ℕ) (bytes : List ℕ) → length bytes ≡ n → UpEnters (e.Went u bytes) old before new behind made

-- what is told to all links at once leads on from there, whatever was counted: a response made this of what was held; the run ends
pub record Follows (I : Inner) (P : Resources → Type 0) (p : Part) (old new : Relay) (made : Option Note) : Type 0 where
  pub number : new.number ≡ old.number
  pub reaches : (start : Resources) (before : List Part) (a : Local) (routing : Routing) → StandsFor old.number start a before
      → Shows old a.link → P a.held → MayGo old.number a p → Reaches I old.number routing (next a p) new routing made

abbrev pub Updates : Resources → Relay → Relay → Option Note → Type 0
Updates held old new made = (r : Response) → Follows IsInner (λ h. held ≡ after_response h r) (applied r) old new made

abbrev pub StopsLeaving : ℕ → Cause → Relay → Relay → Option Note → Type 0
StopsLeaving begun cause old new made = (n : ℕ) → counted n ≡ begun → Follows (leaving n) any (stopped cause) old new made

-- a link is born at a door, and makes no note: it is taken in; or, where as many are open as may be, it is turned away
abbrev pub Begins : Door → ℕ → Relay → Type 0
Begins d l k = (a : Local) → a.link ≡ no_link → Shows k (next (next a (entry (e.Accepted l d))) welcomed).link

abbrev pub TurnsAway : Door → ℕ → Relay → Type 0
TurnsAway d l k = (a : Local) → a.link ≡ no_link → Shows k (next (next a (entry (e.Accepted l d))) crowded).link
