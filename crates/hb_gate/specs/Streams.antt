-- What happens to the streams of a link in code. No public clause cites this file.
use Rattle.std.specs.Prelude.{◌≡◌, ◌≢◌, ℕ, ◌+◌, ◌-◌, ◌^◌, ◌<◌, ◌≤◌, ◌&&◌, Bool, true, false, IsSome, is_none, min, nat_lt, nat_le, length, drop, if◌then◌else◌, Option, Some, None}
use Rattle.std.specs.Option.{option_map}
use Rattle.std.specs.Ordering.{nat_cmp}
use Rattle.std.specs.FinMap.{FinMap, get, insert}
use Rattle.hb_base.specs.declared.cause.Cause.{Cause}
use Rattle.hb_conn.specs.Connection.{Connection}
use Rattle.hb_conn.specs.Observed.{data_unbegun, wrote}
use Rattle.hb_outgoing.specs.declared.unbegun.Unbegun.{Unbegun}
use Rattle.hb_gate.specs.declared.gate.Gate.{Gate}
use Rattle.hb_gate.specs.declared.looking.Mail.{Mail}
use Rattle.hb_gate.specs.declared.stream.Stage.{Stage}
use Rattle.hb_gate.specs.declared.stream.Stage.TheVariants.{Asked, Carrying, Over}
use Rattle.hb_gate.specs.declared.stream.Stream.{Stream}

-- the streams of a link
abbrev pub Map : Type 0
Map = FinMap nat_cmp Stream

-- a tunnel was asked for on it that didn't end
abbrev pub lives_at : Stage → Bool
lives_at Asked = true
lives_at Carrying = true
lives_at stage = false

-- its tunnel ended, and nothing more is heard of it
abbrev pub is_over : Stage → Bool
is_over Over = true
is_over stage = false

-- nothing is left of it
abbrev pub is_left : Stream → Bool
is_left k = is_over k.stage && is_none k.mail

-- it ends for a cause, where it lives, and nothing more is heard of it
abbrev pub ended_at : Cause → Stage → Stream → Stream
ended_at why Asked k = record k { stage = Over; mail = Some why }
ended_at why Carrying k = record k { stage = Over; mail = Some why }
ended_at why stage k = k

abbrev pub ended_here : Cause → Stream → Stream
ended_here why k = ended_at why k.stage k

-- so each does on a stream from this one on
abbrev pub ended_from : (low : ℕ) → Cause → ℕ → Option Stream → Option Stream
ended_from low why s o = if nat_le low s then option_map (ended_here why) o else o

-- of a map one alone changes so
pub record ChangesAt (s : ℕ) (now : Option Stream) (old new : Map) : Type 0 where
  pub here : get new s ≡ now
  pub others : (k : ℕ) → k ≢ s → get new k ≡ get old k

-- those below a number have changed so, the others are as they were
pub record ChangedBelow (change : ℕ → Option Stream → Option Stream) (bound : ℕ) (old new : Map) : Type 0 where
  pub below : (s : ℕ) → s < bound → get new s ≡ change s (get old s)
  pub behind : (s : ℕ) → bound ≤ s → get new s ≡ get old s

abbrev pub EndsFrom : (low : ℕ) → Cause → Map → Map → Type 0
EndsFrom low why old new = ChangedBelow (ended_from low why) (2 ^ 32) old new

-- the first stream from a number on, among the numbers of 32 bits
abbrev pub IsNext : Map → ℕ → Option ℕ → Type 0
IsNext m from None = (s : ℕ) → from ≤ s → s < 2 ^ 32 → get m s ≡ None
IsNext m from (Some first) = (from ≤ first) × IsSome (get m first) × ((s : ℕ) → from ≤ s → s < first → get m s ≡ None)

-- nothing is left of one that is over and told
abbrev pub kept_by : Bool → Stream → Option Stream
kept_by true k = None
kept_by false k = Some k

abbrev pub kept : Stream → Option Stream
kept k = kept_by (is_left k) k

-- so many bytes more of it have begun to go, of which the count stops at 2^64 - 1
abbrev pub counts : ℕ → Stream → Stream
counts n k = record k { begun = min (k.begun + n) (2 ^ 64 - 1) }

abbrev pub counted_for : ℕ → ℕ → Map → Option Stream → Map
counted_for s n streams None = streams
counted_for s n streams (Some k) = insert streams s (counts n k)

-- the payload of a DATA frame counts for its stream, where there is one
abbrev pub begun_counted : Option Unbegun → Map → Map
begun_counted None streams = streams
begun_counted (Some first) streams = counted_for first.stream first.size streams (get streams first.stream)

-- where octets go behind the front header, DATA may begin with them
abbrev pub counted_by : Bool → Connection → Map → Map
counted_by true c streams = begun_counted (data_unbegun c) streams
counted_by false c streams = streams

-- of n octets that go those of the front header are the first
abbrev pub left_behind : ℕ → Gate → Gate
left_behind n k = record k {
  front = drop (min (length k.front) n) k.front;
  streams = counted_by (nat_lt (min (length k.front) n) n) k.conn k.streams;
  conn = wrote k.conn (n - min (length k.front) n);
}

-- the mail of one is taken: which that is, and what is left of it
abbrev pub mail_by : Option Cause → ℕ → Stream → Option Mail
mail_by None s k = None
mail_by (Some why) s k = Some (record { stream = s; link = k.link; cause = why; begun = k.begun })

abbrev pub mail_on : ℕ → Option Stream → Option Mail
mail_on s None = None
mail_on s (Some k) = mail_by k.mail s k

abbrev pub TakesBy : Option Cause → ℕ → Stream → Gate → Gate → Type 0
TakesBy None s k old new = new ≡ old
TakesBy (Some why) s k old new =
    (new ≡ record old { streams = new.streams }) × ChangesAt s (kept (record k { mail = None })) old.streams new.streams

abbrev pub TakesFrom : Option Stream → ℕ → Gate → Gate → Type 0
TakesFrom None s old new = new ≡ old
TakesFrom (Some k) s old new = TakesBy k.mail s k old new

abbrev pub TakesMail : ℕ → Gate → Option Mail → Gate → Type 0
TakesMail s old result new = (result ≡ mail_on s (get old.streams s)) × TakesFrom (get old.streams s) s old new
