-- What a connection stands for.
use Rattle.std.specs.Prelude.{◌≡◌, ◌==◌, ℕ, ◌+◌, ◌-◌, if◌then◌else◌, List, [], ◌∷◌, ◌++◌, length, take, drop, Option, Some, None}
use Rattle.std.specs.List.{flat_map}
use Rattle.std.specs.Cmp.Lexicographic.{pointwise}
use Rattle.hb_frames.specs.RawFrame.{RawFrame}
use Rattle.hb_frames.specs.Frames.{Joins, AreOctets}
use Rattle.hb_streams.specs.declared.role.Role.{Role}
use Rattle.hb_streams.specs.declared.role.Role.TheVariants.{Server, Client}
use Rattle.hb_outgoing.specs.Laws.{Shows}
use Rattle.hb_conn.specs.Preface.{octets}
use Rattle.hb_conn.specs.Outcome.{is_silent}
use Rattle.hb_conn.specs.Connection.{Connection, fresh_server, fresh_client, core_of, ended_by}
use Rattle.hb_conn.specs.Observed.{outgoing}
use Rattle.hb_conn.specs.declared.found.Found.{Found}
use Rattle.hb_conn.specs.declared.found.Found.TheVariants as found
use Rattle.hb_history.specs.Points.{Point, After, Runs, RunsWith, frames_got}

-- before anything happened
abbrev pub fresh : Role → Connection
fresh Server = fresh_server
fresh Client = fresh_client

-- what this end writes in front of its frames, and what the peer does: a client's preface (RFC 9113 section 3.4)
abbrev pub opening : Role → List ℕ
opening Server = []
opening Client = octets

abbrev pub awaited : Role → List ℕ
awaited Server = octets
awaited Client = []

-- these points lead from one connection to another one
abbrev pub Leads : Connection → List Point → Connection → Type 0
Leads c points d = Runs (core_of c) points (core_of d)

-- and these frames begin
abbrev pub LeadsWith : Connection → List Point → List RawFrame → Connection → Type 0
LeadsWith c points begun d = RunsWith (core_of c) points begun (core_of d)

-- so does one move, of which this is told
abbrev pub Becomes : Connection → Point → Connection → Type 0
Becomes c p d = After (core_of c) p.move (core_of d) p.told

-- a stream that the peer ended, told behind its last octets
abbrev pub ends_in : Option ℕ → List Found
ends_in None = []
ends_in (Some stream) = found.Ended stream ∷ []

-- what a caller is told of a point
abbrev pub told_of : Point → List Found
told_of p = if is_silent p.told then [] else p.told ∷ ends_in (ended_by p.told)

-- all that is told, in order: the happenings of a connection
abbrev pub happenings : List Point → List Found
happenings points = flat_map told_of points

-- of the octets that came, those of the preface that is awaited, and those behind it
abbrev pub front_of : Role → List ℕ → List ℕ
front_of role taken = take (length (awaited role)) taken

abbrev pub behind_of : Role → List ℕ → List ℕ
behind_of role taken = drop (length (awaited role)) taken

-- The octets that came: those in front are compared with what is awaited; those behind are frames, and what is held of
-- the next
pub record Came (role : Role) (frames : List RawFrame) (taken : List ℕ) (c : Connection) : Type 0 where
  pub are_octets : AreOctets taken
  pub count : c.preface.came ≡ length (front_of role taken) + (24 - length (awaited role))
  pub same : c.preface.same ≡ pointwise ◌==◌ (front_of role taken) (take (length (front_of role taken)) (awaited role))
  pub frames_are : Joins frames c.receiver.reader.held (behind_of role taken)

-- A connection stands for the points of its history, for what its callers were told, and for the octets that it took and
-- that were written.
pub record StandsFor (role : Role) (points : List Point) (given : List Found) (taken written : List ℕ) (c : Connection) : Type 0 where
  -- its points lead to it
  pub runs : Leads (fresh role) points c
  -- what came are the frames looked at, and what is held
  pub came : Came role (frames_got points) taken c
  -- what was given are the happenings, but for an end that is still to be told
  pub told : happenings points ≡ given ++ ends_in c.ended
  -- these frames have begun
  pub begun : List RawFrame
  pub begins : LeadsWith (fresh role) points begun c
  -- what was written, and what waits of the frames begun, are the opening and these frames
  pub shows : Shows (opening role) written begun (outgoing c)
