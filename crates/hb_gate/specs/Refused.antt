-- What no call of a link may be, a link that may be shown, and whether bytes may be put there.
use Rattle.std.specs.Prelude.{◌≡◌, ◌≢◌, ℕ, ◌+◌, ◌<◌, true, false, List, [], Ok, Some, None}
use Rattle.std.specs.FinMap.{empty}
use Rattle.hb_base.specs.declared.cause.Cause.{Cause}
use Rattle.hb_base.specs.declared.target.Target.{Target}
use Rattle.hb_conn.specs.Connection.{Connection, fresh_client, core_of, with_core}
use Rattle.hb_conn.specs.Observed.{next_stream, count_put}
use Rattle.hb_outgoing.specs.Waiting.{nothing}
use Rattle.hb_world.specs.declared.act.Act.TheVariants as act
use Rattle.hb_gateway.specs.Calm.{IsCalm, close_due}
use Rattle.hb_gateway.specs.Gateway as m
use Rattle.hb_gateway.specs.Gateway.{Gateway, no_link, serving, faulted, carries, stage_of}
use Rattle.hb_gateway.specs.Key.{Key, front_of}
use Rattle.hb_gateway.specs.Keys.{key_as}
use Rattle.hb_gateway.specs.Part.{Part}
use Rattle.hb_gateway.specs.Response.{Heard, carrying, failing}
use Rattle.hb_gateway.specs.Runs.{StandsFor}
use Rattle.hb_gate.specs.Calls.{Begins, Puts, MayPut, Asks, Offers, Wants, AreActive, ResetsAll, TellsEnd, TellsNone, Acts}
use Rattle.hb_gate.specs.Shows.{Shows}
use Rattle.hb_gate.specs.declared.gate.Gate.{Gate}
use Rattle.hb_gate.specs.declared.phase.Phase.TheVariants.{Opening, Serving}

-- of a link and a run of it that the code shows this doesn't follow
abbrev pub Never : (Gate → Gateway → Type 0) → Type 0
Never P = (k : Gate) (x : Gateway) (parts : List Part) → StandsFor k.number x parts → Shows k x → P k x → ⊥

-- octets are put where none may be
abbrev pub PutsWithoutRoom : Type 0
PutsWithoutRoom =
    (new : Gate) (s count : ℕ) (bytes : List ℕ)
    → Never (λ k x. (carries x.phase ≡ true) × (stage_of x s ≡ carrying) × (count_put x.conn s bytes ≡ 0) × (0 < count)
    × Puts s bytes count k new)

-- another stream is asked for than the next one; one is offered behind a GOAWAY
abbrev pub AsksElsewhere : Type 0
AsksElsewhere =
    (new : Gate) (next s captured : ℕ) (to : Target)
    → Never (λ k x. (m.offers x ≡ true) × (next_stream x.conn ≡ Ok next) × (next ≢ s) × Asks s captured to k new)

abbrev pub OffersAway : Type 0
OffersAway = Never (λ k x. (x.away ≡ true) × Offers k true)

-- something is read behind a connection error
abbrev pub ReadsFaulted : Type 0
ReadsFaulted = (n code : ℕ) → Never (λ k x. (x.phase ≡ faulted code) × Wants k (n + 1))

-- a stream that is to be reset is left so
abbrev pub ResetsNothing : Type 0
ResetsNothing =
    (s code : ℕ) → Never (λ k x. (carries x.phase ≡ true) × AreActive x × (stage_of x s ≡ failing code) × ResetsAll k k)

-- a tunnel is told an end that it didn't hear, or that it was told; one is left untold
abbrev pub TellsUnheard : Type 0
TellsUnheard =
    (new : Gate) (s begun link : ℕ) (why : Cause) → Never (λ k x. ((x.streams s).mail ≡ None) × TellsEnd s why begun link k new)

abbrev pub LeavesUntold : Type 0
LeavesUntold = (new : Gate) (s : ℕ) (heard : Heard) → Never (λ k x. ((x.streams s).mail ≡ Some heard) × TellsNone k new)

-- it is closed where that isn't due; another link is
abbrev pub ClosesUndue : Type 0
ClosesUndue =
    (new : Gate) (n : ℕ) (why : Cause)
    → Never (λ k x. IsCalm x × (close_due x.phase ≡ None) × Acts (Some (act.Close n why)) k new)

abbrev pub ClosesAnother : Type 0
ClosesAnother = (k new : Gate) (n : ℕ) (why : Cause) → n ≢ k.number → Acts (Some (act.Close n why)) k new → ⊥

-- a link that was dialled just now is shown by its machine
abbrev pub NewIsShown : Type 0
NewIsShown =
    (k : Gate) → k.phase ≡ Opening → k.front ≡ front_of (key_as k.key) → k.conn ≡ fresh_client → k.streams ≡ empty → k.away ≡ false
    → Begins k.number (key_as k.key) k

-- WHETHER BYTES MAY BE PUT, on a link that is open: of its connection the first octets wait, or all went

-- a link of the machine, and one of the code, that is open on this connection; nothing was asked for on it
abbrev pub open_on : Connection → Key → Gateway
open_on conn key = record no_link { key = key; phase = serving; conn = conn }

pub record IsOpenOn (conn : Connection) (k : Gate) : Type 0 where
  pub phase : k.phase ≡ Serving
  pub front : k.front ≡ []
  pub same : k.conn ≡ conn
  pub streams : k.streams ≡ empty
  pub away : k.away ≡ false

-- a new connection of which all that waited was written
abbrev pub all_written : Connection
all_written = with_core fresh_client (record (core_of fresh_client) { out = nothing })

-- it says that bytes may be put behind octets that wait; it says that none may where none wait
abbrev pub PutsBehindOctets : Type 0
PutsBehindOctets = (k : Gate) → IsOpenOn fresh_client k → MayPut k true → ⊥

abbrev pub KeepsBackBehindNone : Type 0
KeepsBackBehindNone = (k : Gate) → IsOpenOn all_written k → MayPut k false → ⊥

-- what it says of each
pub record PutsInTurn : Type 0 where
  pub waits : (k : Gate) → IsOpenOn fresh_client k → MayPut k false
  pub written : (k : Gate) → IsOpenOn all_written k → MayPut k true
