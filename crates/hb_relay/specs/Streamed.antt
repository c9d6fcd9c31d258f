-- What each call on a link's stream is to the machine.
use Rattle.std.specs.Prelude.{◌≡◌, ℕ, ◌<◌, Bool, true, false, IsTrue, ◌↔◌, List, length, Option, Some, None}
use Rattle.hb_base.specs.declared.cause.Cause.{Cause}
use Rattle.hb_base.specs.declared.note.Note.{Note}
use Rattle.hb_base.specs.declared.target.Target.{Target}
use Rattle.hb_captured.specs.Answer.{Routing, through, key_of}
use Rattle.hb_captured.specs.Captured.{Captured, due, is_raw, is_through}
use Rattle.hb_captured.specs.Part.{Part, roomless, asked, hears, put, finished, credited, completed}
use Rattle.hb_captured.specs.Runs.{Local, MayGo, next, counted, Lives}
use Rattle.hb_gateway.specs.Key.{Key}
use Rattle.hb_gateway.specs.Response.{opens, brings, ends, fails}
use Rattle.hb_tunnel.specs.Way.{is_done}
use Rattle.hb_relay.specs.Calls.{any}
use Rattle.hb_relay.specs.Reaches.{Meets, rerouted}
use Rattle.hb_relay.specs.Shows.{Shows}
use Rattle.hb_relay.specs.declared.relay.Relay.{Relay}

-- a part, whatever the counts are, which stay; it makes this note, or none
abbrev pub MeetsStill : Part → Relay → Relay → Option Note → Type 0
MeetsStill p old new made = (routing : Routing) → Meets any p old routing new routing made

abbrev pub Asks : (gate stream : ℕ) → Relay → Relay → Type 0
Asks g s old new = MeetsStill (asked g s) old new None

-- no link to its gateway has room
abbrev pub LacksRoom : Relay → Routing → Relay → Routing → Option Note → Type 0
LacksRoom old before new behind made = Meets any roomless old before new behind made

-- what is heard on it, behind however many bytes that have begun to go
abbrev pub HearsOpen : Bool → Relay → Relay → Note → Type 0
HearsOpen end old new made = (begun : ℕ) → MeetsStill (hears (opens end) begun) old new (Some made)

abbrev pub HearsBytes : List ℕ → Relay → Relay → Type 0
HearsBytes bytes old new = (begun : ℕ) → MeetsStill (hears (brings bytes) begun) old new None

abbrev pub HearsEnd : Relay → Relay → Type 0
HearsEnd old new = (begun : ℕ) → MeetsStill (hears ends begun) old new None

-- so many bytes have begun to go, as far as notes tell them
abbrev pub HearsFailure : Cause → ℕ → Relay → Routing → Relay → Routing → Option Note → Type 0
HearsFailure why begun old before new behind made =
    (n : ℕ) → counted n ≡ begun → Meets any (hears (fails why) n) old before new behind made

-- what is put on it, and given back to its window
abbrev pub Puts : ℕ → Relay → Relay → Type 0
Puts n old new = (bytes : List ℕ) → length bytes ≡ n → MeetsStill (put bytes) old new None

abbrev pub Finishes : Relay → Relay → Type 0
Finishes old new = MeetsStill finished old new None

abbrev pub Credits : Relay → Relay → Type 0
Credits old new = (n : ℕ) → MeetsStill (credited n) old new None

-- both sides ended, and all went through
pub record Completes (begun : ℕ) (old : Relay) (before : Routing) (new : Relay) (behind : Routing) (made : Note) : Type 0 where
  pub number : new.number ≡ old.number
  pub reaches : (n : ℕ) → counted n ≡ begun → (a : Local) → Shows old a.link → Lives a.link → is_through a.link ≡ true
      → a.link.up_shut ≡ true
      → MayGo old.number a (completed n made) × Shows new (next a (completed n made)).link
      × (behind ≡ rerouted a.link (next a (completed n made)).link before)

-- WHAT IS KNOWN OF IT

-- for whom a stream is to be asked for, and for which authority
abbrev pub WantsStream : Relay → Option (Key × Target) → Type 0
WantsStream k None = (x : Captured) → Shows k x → x.stage ≡ due → key_of x.aim ≡ None
WantsStream k (Some at) =
    (x : Captured) → Shows k x → (x.stage ≡ due) × ((endpoint : List ℕ) × (x.aim ≡ through at.0 at.1 endpoint))

-- its stream, where it has one, and the link to a gateway that this is of
abbrev pub HasStream : Relay → Option (ℕ × ℕ) → Type 0
HasStream k None = (x : Captured) → Shows k x → is_raw x ≡ true
HasStream k (Some at) = (x : Captured) → Shows k x → (is_raw x ≡ false) × (x.gate ≡ at.0) × (x.stream ≡ at.1)

-- it lives, on a stream
abbrev pub LivesOn : Relay → Bool → Type 0
LivesOn k lives = (x : Captured) → Shows k x → (IsTrue lives ↔ Lives x)

-- the bytes that wait for its stream
abbrev pub Waits : Relay → List ℕ → Type 0
Waits k bytes = (x : Captured) → Shows k x → bytes ≡ x.ways.up.held

-- some do
abbrev pub HasWaiting : Relay → Bool → Type 0
HasWaiting k some = (x : Captured) → Shows k x → (IsTrue some ↔ (0 < length x.ways.up.held))

-- END_STREAM may be put; all went both ways, and END_STREAM was put
abbrev pub MayFinish : Relay → Bool → Type 0
MayFinish k may = (x : Captured) → Shows k x → (IsTrue may ↔ (Lives x × (is_done x.ways.up ≡ true) × (x.up_shut ≡ false)))

abbrev pub MayComplete : Relay → Bool → Type 0
MayComplete k may = (x : Captured) → Shows k x → (IsTrue may ↔ (Lives x × (is_through x ≡ true) × (x.up_shut ≡ true)))

-- so many bytes are to be given back to its window
abbrev pub Owes : Relay → ℕ → Type 0
Owes k n = (x : Captured) → Shows k x → n ≡ counted x.owed
