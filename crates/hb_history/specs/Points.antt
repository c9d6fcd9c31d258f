-- What happens at one end of a connection, in order, and what is told of it.
use Rattle.std.specs.Prelude.{◌≡◌, ℕ, false, Bool, List, [], ◌∷◌, ◌++◌, length, ◌≤◌, Ok}
use Rattle.std.specs.List.{flat_map}
use Rattle.hb_hpack.specs.declared.header.Header.{Header}
use Rattle.hb_frames.specs.RawFrame.{RawFrame}
use Rattle.hb_frames.specs.Bodies.{lent_of}
use Rattle.hb_frames.specs.declared.refusal.Refusal.{Refusal}
use Rattle.hb_streams.specs.Answers.{number_of}
use Rattle.hb_outgoing.specs.Waiting.{octets_of}
use Rattle.hb_outgoing.specs.Written.{begun_by}
use Rattle.hb_flow.specs.Flows.{creditable}
use Rattle.hb_owed.specs.declared.status.Status.{Status}
use Rattle.hb_frames.specs.Numbers.{protocol_error}
use Rattle.hb_conn.specs.Glance.{glance_at}
use Rattle.hb_conn.specs.Handling.{Handles}
use Rattle.hb_conn.specs.Receiving.{pauses}
use Rattle.hb_conn.specs.Outcome.{Gives}
use Rattle.hb_conn.specs.Faults.{faulted, aborted}
use Rattle.hb_conn.specs.Opening.{opened_with}
use Rattle.hb_conn.specs.Ending.{status_put, end_put}
use Rattle.hb_conn.specs.Credit.{credit}
use Rattle.hb_conn.specs.Payload.{data_put}
use Rattle.hb_conn.specs.Owing as owing
use Rattle.hb_conn.specs.declared.machine.Core.{Core}
use Rattle.hb_conn.specs.declared.found.Found.{Found}
use Rattle.hb_conn.specs.declared.found.Found.TheVariants as found
use Rattle.hb_conn.specs.declared.glance.Glance.TheVariants as glance

pub data Move : Type 0 where
  -- a frame of the peer is looked at
  got : RawFrame → Move
  -- octets of the peer are no frame that may be taken: why, and the type and the flags that they tell
  refused : Refusal → (kind flags : ℕ) → Move
  -- the octets of the peer don't begin with a client's preface
  misbegan : Move
  -- this end opens a stream with these headers, and ends its side at once where `end` says so
  opened : (stream : ℕ) → List Header → (end : Bool) → Move
  -- it answers on a stream with a status, ends its side of it, or resets it
  answered : (stream : ℕ) → Status → Move
  ended : (stream : ℕ) → Move
  reset : (stream code : ℕ) → Move
  -- it uses up octets that came on a stream
  credited : (stream n : ℕ) → Move
  -- of these octets as many are put in one DATA frame as may be
  put : (stream : ℕ) → List ℕ → Move
  -- so many octets of the output are written
  wrote : (n : ℕ) → Move

-- an act of this end tells nothing
abbrev pub Acts : Core → Core → Found → Type 0
Acts next new told = (new ≡ next) × (told ≡ found.Silent)

-- Frames are looked at only while there is room for their answers and no connection error was told
abbrev pub Looks : Core → Type 0 → Type 0
Looks c handled = (pauses c ≡ false) × handled

-- what a move makes of a connection, and what is told of it
abbrev pub After : Core → Move → Core → Found → Type 0
After c (got f) new told = Looks c (Handles c (glance_at f) (lent_of f) new told)
After c (refused r kind flags) new told = Looks c (Handles c (glance.Refused r.code r.row kind flags) [] new told)
After c misbegan new told = Looks c (Gives (faulted c protocol_error) new told)
After c (opened stream headers end) new told =
    (number_of c.streams c.peer.streams ≡ Ok stream) × Acts (opened_with c stream headers end) new told
After c (answered stream status) new told = Acts (status_put c stream status) new told
After c (ended stream) new told = Acts (end_put c stream) new told
After c (reset stream code) new told = Acts (aborted c stream code) new told
After c (credited stream n) new told = (n ≤ creditable c.flow stream) × Acts (credit c stream n) new told
After c (put stream bytes) new told = Acts (data_put c stream bytes) new told
After c (wrote n) new told = (n ≤ length (octets_of c.out)) × Acts (owing.wrote c n) new told

-- a move, and what is told of it
pub record Point : Type 0 where
  pub move : Move
  pub told : Found

abbrev pub point : Move → Found → Point
point move told = record { move = move; told = told }

-- one move after another
abbrev pub Runs : Core → List Point → Core → Type 0
Runs c [] new = new ≡ c
Runs c (p ∷ ps) new = (mid : Core) × After c p.move mid p.told × Runs mid ps new

-- the frames that begin with a move: those whose first octet is written
abbrev pub begins_by : Core → Move → List RawFrame
begins_by c (wrote n) = begun_by n c.out
begins_by c _ = []

-- one move after another, with which these frames begin
abbrev pub RunsWith : Core → List Point → List RawFrame → Core → Type 0
RunsWith c [] begun new = (new ≡ c) × (begun ≡ [])
RunsWith c (p ∷ ps) begun new =
    (mid : Core) × After c p.move mid p.told
    × (later : List RawFrame) × (begun ≡ begins_by c p.move ++ later) × RunsWith mid ps later new

-- the frames of the peer that were looked at, in order
abbrev pub got_by : Point → List RawFrame
got_by p = got_of p.move where
  got_of : Move → List RawFrame
  got_of (got f) = f ∷ []
  got_of _ = []

abbrev pub frames_got : List Point → List RawFrame
frames_got points = flat_map got_by points

-- the octets of DATA, without padding, that a move hands out
abbrev pub data_of : Move → Found → List ℕ
data_of (got f) (found.Chunk s end) = lent_of f
data_of _ _ = []

abbrev pub data_in : Point → List ℕ
data_in p = data_of p.move p.told
