-- One end of a connection (RFC 9113 section 3).
use Rattle.std.specs.Prelude.{◌≡◌, ◌+◌, ◌<◌, is_some, ℕ, Bool, true, false, if◌then◌else◌, List, [], ◌∷◌, min, length, take, slice_range, Option, Some, None, refl}
use Rattle.std.specs.Coded.{Coded, code_by, coded×, coded_ℕ, coded_option}
use Rattle.std.specs.FinMap.{empty}
use Rattle.hb_frames.specs.RawFrame.{RawFrame}
use Rattle.hb_frames.specs.Reading.{space_of as reader_space}
use Rattle.hb_frames.specs.Reading.{fed as reader_fed}
use Rattle.hb_streams.specs.States.{fresh as fresh_streams}
use Rattle.hb_streams.specs.declared.role.Role.{Role}
use Rattle.hb_streams.specs.declared.role.Role.TheVariants.{Server, Client}
use Rattle.hb_flow.specs.Flows.{fresh as fresh_flows}
use Rattle.hb_blocks.specs.Assembly.{fresh as fresh_blocks}
use Rattle.hb_hpack.specs.declared.spelling.Spelling.TheVariants.{Plain}
use Rattle.hb_outgoing.specs.Waiting.{Waiting, nothing, opened, put}
use Rattle.hb_frames.specs.Numbers.{settings_kind, first_frame_size, protocol_error}
use Rattle.hb_conn.specs.Frames.{frame}
use Rattle.hb_conn.specs.Faults.{faulted}
use Rattle.hb_conn.specs.Outcome.{Gives, is_silent}
use Rattle.hb_conn.specs.Preface.{Came, octets, start, taken_of, is_whole}
use Rattle.hb_conn.specs.Preface.{fed as preface_fed}
use Rattle.hb_conn.specs.Receiving.{pauses, Receives}
use Rattle.hb_conn.specs.declared.machine.Core.{Core}
use Rattle.hb_conn.specs.declared.receiver.Receiver.{Receiver}
use Rattle.hb_conn.specs.declared.found.Found.{Found}
use Rattle.hb_conn.specs.declared.found.Found.TheVariants.{Silent, Chunk, Ended}

pub record Connection : Type 0 where
  -- what came of a client's preface
  pub preface : Came
  pub receiver : Receiver
  -- the stream that the peer has ended, of which it is still to be told
  pub ended : Option ℕ

-- a connection is stored as its fields
abbrev pub connection_code : Coded Came → Coded Receiver → Coded Connection
connection_code came receiver =
    code_by ((Came × Receiver) × Option ℕ)
    (coded× (coded× came receiver) (coded_option coded_ℕ))
    (λ c. ((c.preface, c.receiver), c.ended))
    (λ p. record { preface = p.0.0; receiver = p.0.1; ended = p.1 })
    (λ _. refl)

-- the SETTINGS that a server begins with: 3 of 100 and 6 of 16,384; and a client: 2 of 0 and 6 of 16,384
abbrev pub server_settings : RawFrame
server_settings = frame settings_kind 0 0 (0 ∷ 3 ∷ 0 ∷ 0 ∷ 0 ∷ 100 ∷ 0 ∷ 6 ∷ 0 ∷ 0 ∷ 64 ∷ 0 ∷ [])

abbrev pub client_settings : RawFrame
client_settings = frame settings_kind 0 0 (0 ∷ 2 ∷ 0 ∷ 0 ∷ 0 ∷ 0 ∷ 0 ∷ 6 ∷ 0 ∷ 0 ∷ 64 ∷ 0 ∷ [])

-- before anything came: the peer's SETTINGS have their first values (RFC 9113 section 6.5.2)
abbrev pub fresh_core : Role → Waiting → Core
fresh_core role out = record {
  streams = fresh_streams role;
  flow = fresh_flows;
  out = out;
  owed = empty;
  encoder = record { spelling = Plain; started = false };
  blocks = fresh_blocks;
  peer = record { frame_size = first_frame_size; streams = 4294967295 };
  settled = false;
  over = false;
}

abbrev pub fresh : Role → Bool → Waiting → Connection
fresh role client out = record {
  preface = start client;
  receiver = record { reader = record { max = first_frame_size; held = []; at = 0; last = [] }; core = fresh_core role out };
  ended = None;
}

abbrev pub fresh_server : Connection
fresh_server = fresh Server false (put server_settings nothing)

abbrev pub fresh_client : Connection
fresh_client = fresh Client true (put client_settings (opened octets))

-- how many octets can be taken
abbrev pub space_of : Connection → ℕ
space_of c = if pauses c.receiver.core then 0 else reader_space c.receiver.reader

-- how many octets are taken of a piece
abbrev pub count_of : Connection → List ℕ → ℕ
count_of c piece = min (length piece) (space_of c)

-- and how many of these belong to the preface
abbrev pub front_of : Connection → List ℕ → ℕ
front_of c piece = taken_of c.preface (take (count_of c piece) piece)

-- they go on with the preface, and then with the frames
abbrev pub taken : Connection → List ℕ → Connection
taken c piece = record c {
  preface = preface_fed c.preface (take (count_of c piece) piece);
  receiver = record c.receiver {
    reader = reader_fed c.receiver.reader (slice_range piece (front_of c piece) (count_of c piece));
  };
}

-- what it keeps beside the octets that came and an end that is still to be told: of this the laws of its history speak
abbrev pub core_of : Connection → Core
core_of c = c.receiver.core

-- with other streams, windows and output
abbrev pub with_core : Connection → Core → Connection
with_core c core = record c { receiver = record c.receiver { core = core } }

-- the stream that ends with what is found, of which it is to be told
abbrev pub ended_by : Found → Option ℕ
ended_by (Chunk stream true) = Some stream
ended_by _ = None

-- row 1: the first 24 octets aren't a client's preface; else frames are received
abbrev pub FindsBy : Bool → Connection → Connection → Found → Type 0
FindsBy false old new found =
    Gives (faulted old.receiver.core protocol_error) new.receiver.core found
    × (new ≡ with_core old new.receiver.core)
FindsBy true old new found =
    Receives old.receiver new.receiver found × (new.preface ≡ old.preface) × (new.ended ≡ ended_by found)

abbrev pub FindsAfter : Bool → Connection → Connection → Found → Type 0
FindsAfter false old new found = (new ≡ old) × (found ≡ Silent)
FindsAfter true old new found = FindsBy old.preface.same old new found

-- an end is told before anything else; nothing is found before the preface is whole
abbrev pub FindsOf : Option ℕ → Connection → Connection → Found → Type 0
FindsOf (Some stream) old new found = (new ≡ record old { ended = None }) × (found ≡ Ended stream)
FindsOf None old new found = FindsAfter (is_whole old.preface) old new found

abbrev pub FindsWhile : Bool → Connection → Connection → Found → Type 0
FindsWhile true old new found = (new ≡ old) × (found ≡ Silent)
FindsWhile false old new found = FindsOf old.ended old new found

-- what is found next, and what it leaves
abbrev pub Finds : Connection → Connection → Found → Type 0
Finds old new found = FindsWhile (pauses old.receiver.core) old new found

-- how much there still may be to be told: what is held, an end, and a connection error
abbrev pub left_of : Connection → ℕ
left_of c =
    length c.receiver.reader.held + (if is_some c.ended then 1 else 0) + (if c.receiver.core.over then 0 else 1)

-- with all that is found, that falls
abbrev pub LeavesLess : Connection → Connection → Found → Type 0
LeavesLess old new found = is_silent found ≡ false → left_of new < left_of old
