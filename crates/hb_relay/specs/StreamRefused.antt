-- What isn't due of a link's stream may not come there; links on a stream that may be shown; and whether bytes wait there.
use Rattle.std.specs.Prelude.{◌≡◌, ℕ, ◌<◌, ◌-◌, ◌^◌, true, false, List, [], ◌∷◌, Some, None}
use Rattle.hb_base.specs.declared.cause.Cause.TheVariants.{Done}
use Rattle.hb_base.specs.declared.door.Door.TheVariants.{Outbound}
use Rattle.hb_base.specs.declared.note.Note.{Note}
use Rattle.hb_base.specs.declared.target.Target.{Target}
use Rattle.hb_captured.specs.Answer.{through}
use Rattle.hb_captured.specs.Captured.{Captured, opening, live, over, no_link, at_stage, left_behind}
use Rattle.hb_captured.specs.Part.{Part, roomless, asked, hears, put, finished, credited, completed}
use Rattle.hb_captured.specs.Runs.{Local, MayGo}
use Rattle.hb_gateway.specs.Key.{Key}
use Rattle.hb_gateway.specs.Response.{Heard, brings}
use Rattle.hb_tunnel.specs.Tunnel.{dialling}
use Rattle.hb_relay.specs.declared.relay.Relay.{Relay}
use Rattle.hb_relay.specs.Shows.{Shows, captured_of}
use Rattle.hb_relay.specs.Streamed.{WantsStream, HasStream, LivesOn, Waits, HasWaiting, MayFinish, MayComplete, Owes}

-- of a link of which this is known a part may not come
abbrev pub Never : (Relay → Type 0) → Part → Type 0
Never P p = (l : ℕ) (k : Relay) (a : Local) → Shows k a.link → P k → MayGo l a p → ⊥

-- where none is wanted none is asked for, and none lacks; nor is a second one asked for
abbrev pub AsksUnwanted : Type 0
AsksUnwanted = (g s : ℕ) → Never (λ k. WantsStream k None) (asked g s)

abbrev pub LacksUnwanted : Type 0
LacksUnwanted = Never (λ k. WantsStream k None) roomless

abbrev pub AsksTwice : Type 0
AsksTwice = (g s : ℕ) (at : ℕ × ℕ) → Never (λ k. HasStream k (Some at)) (asked g s)

-- nothing is heard on one that wasn't asked for; no bytes before it is open
abbrev pub HearsUnasked : Type 0
HearsUnasked = (heard : Heard) (n : ℕ) → Never (λ k. HasStream k None) (hears heard n)

abbrev pub BringsEarly : Type 0
BringsEarly = (bytes : List ℕ) (n : ℕ) → Never (λ k. LivesOn k false) (hears (brings bytes) n)

-- no bytes that don't wait are put, nor END_STREAM before its turn; no more is given back than was written
abbrev pub PutsOther : Type 0
PutsOther = (bytes : List ℕ) → Never (λ k. Waits k []) (put bytes)

abbrev pub FinishesEarly : Type 0
FinishesEarly = Never (λ k. MayFinish k false) finished

abbrev pub CreditsMore : Type 0
CreditsMore = (n m : ℕ) → n < m → n < 2 ^ 64 - 1 → Never (λ k. Owes k n) (credited m)

-- it isn't done before all went through
abbrev pub CompletesEarly : Type 0
CompletesEarly = (n : ℕ) (made : Note) → Never (λ k. MayComplete k false) (completed n made)

-- A LINK ON A STREAM: asked for, open, and done
abbrev pub by_gateway : Key → Target → List ℕ → (gate stream : ℕ) → Captured
by_gateway key authority endpoint gate stream = record no_link {
  door = Outbound;
  stage = opening;
  aim = through key authority endpoint;
  gate = gate;
  stream = stream;
}

abbrev pub lives_there : Captured → Captured
lives_there x = record x { stage = live; ways = record dialling { is_open = true } }

abbrev pub done_there : Captured → Captured
done_there x = at_stage (over Done) (left_behind 0 (lives_there x))

pub record StreamIsShown : Type 0 where
  pub asked : (k : Relay) (key : Key) (authority : Target) (endpoint : List ℕ) (g s : ℕ) → 0 < g
      → captured_of k ≡ by_gateway key authority endpoint g s → Shows k (by_gateway key authority endpoint g s)
  pub lives : (k : Relay) (key : Key) (authority : Target) (endpoint : List ℕ) (g s : ℕ) → 0 < g
      → captured_of k ≡ lives_there (by_gateway key authority endpoint g s)
      → Shows k (lives_there (by_gateway key authority endpoint g s))
  pub done : (k : Relay) (key : Key) (authority : Target) (endpoint : List ℕ) (g s : ℕ)
      → captured_of k ≡ done_there (by_gateway key authority endpoint g s) → Shows k (done_there (by_gateway key authority endpoint g s))

-- WHETHER BYTES WAIT FOR ITS STREAM, of a link that lives there

-- these do
abbrev pub waits_there : List ℕ → Captured → Captured
waits_there bytes x =
    record x { stage = live; ways = record dialling { is_open = true; up = record dialling.up { held = bytes } } }

-- a link of the code that lives on this stream, for which these wait
pub record HoldsThere (bytes : List ℕ) (stream : ℕ) (k : Relay) : Type 0 where
  pub key : Key
  pub authority : Target
  pub endpoint : List ℕ
  pub gate : ℕ
  pub some : 0 < gate
  pub same : captured_of k ≡ waits_there bytes (by_gateway key authority endpoint gate stream)

-- it says that bytes wait where none does; it says that none does where one waits
abbrev pub FindsBytesInNone : Type 0
FindsBytesInNone = (s : ℕ) (k : Relay) → HoldsThere [] s k → HasWaiting k true → ⊥

abbrev pub MissesByte : Type 0
MissesByte = (s byte : ℕ) (k : Relay) → HoldsThere (byte ∷ []) s k → HasWaiting k false → ⊥

-- what it says of each
pub record BytesAreFound : Type 0 where
  pub none : (s : ℕ) (k : Relay) → HoldsThere [] s k → HasWaiting k false
  pub one : (s byte : ℕ) (k : Relay) → HoldsThere (byte ∷ []) s k → HasWaiting k true
