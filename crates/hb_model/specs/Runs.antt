-- Which points may come next, and what a run of the machine stands for.
use Rattle.std.specs.Prelude.{⊤, ◌≡◌, ◌⊎◌, ℕ, ◌<◌, ◌≤◌, Bool, true, false, List, [], ◌∷◌, ◌++◌, length, Option, Some, None, Ok, Err}
use Rattle.hb_base.specs.declared.cause.Cause.{Cause}
use Rattle.hb_base.specs.declared.cause.Cause.TheVariants as cause
use Rattle.hb_base.specs.declared.door.Why.TheVariants as whys
use Rattle.hb_grpc.specs.Reading.{answer}
use Rattle.hb_grpc.specs.declared.fault.GrpcFault.{GrpcFault}
use Rattle.hb_disco.specs.Response.{response_of}
use Rattle.hb_disco.specs.declared.response.Response.{Response}
use Rattle.hb_disco.specs.declared.response.ResponseFault.{ResponseFault}
use Rattle.hb_conn.specs.Connection.{Connection}
use Rattle.hb_conn.specs.Observed as connection
use Rattle.hb_conn.specs.Observed.{IsLookedAt}
use Rattle.hb_conn.specs.declared.found.Found.{Found}
use Rattle.hb_frames.specs.Frames.{AreOctets}
use Rattle.hb_history.specs.Points as history
use Rattle.hb_kept.specs.Kept as kept
use Rattle.hb_kept.specs.Looks as looks
use Rattle.hb_world.specs.declared.entry.Entry.{Entry}
use Rattle.hb_world.specs.declared.entry.Entry.TheVariants as e
use Rattle.hb_world.specs.declared.entry.Way.{Way}
use Rattle.hb_world.specs.declared.entry.Way.TheVariants as way
use Rattle.hb_model.specs.declared.act.Act.{Act}
use Rattle.hb_model.specs.declared.act.Act.TheVariants as act
use Rattle.hb_model.specs.declared.config.NodeConfig.{NodeConfig}
use Rattle.hb_model.specs.Discovery.{Discovery, Phase, dialling, live, faulted, ending, closing, put_requests, sendable, usable, on_found, headers_read, ends_for}
use Rattle.hb_model.specs.Machine.{Machine, fresh, entered, with_link, with_response, with_used, with_stop}
use Rattle.hb_model.specs.Point.{Point, entry, looked, applied, refused, used, put, stopped}

-- how many bytes may be read: so many that every answer to them has room, with what is granted again of the DATA that they
-- hand out, and that the connection takes
abbrev pub wants_of : Discovery → ℕ
wants_of x = kept.wants_of x.conn

abbrev pub wanted_by : Phase → Discovery → ℕ
wanted_by live x = wants_of x
wanted_by _ x = 0

abbrev pub wants : Machine → ℕ → ℕ
wants m l = wanted_by (m.links l).phase (m.links l)

-- what may be written
abbrev pub output_by : Phase → Discovery → List ℕ
output_by live x = connection.output x.conn
output_by (faulted code) x = connection.output x.conn
output_by _ x = []

abbrev pub output : Machine → ℕ → List ℕ
output m l = output_by (m.links l).phase (m.links l)

-- the call of the world that is due: a link to be closed goes before a dial
abbrev pub due_by : NodeConfig → Bool → Option ℕ → Option Cause → Option Act
due_by g dials (Some l) (Some cause) = Some (act.Close l cause)
due_by g true _ _ = Some (act.Dial g.discovery whys.Discovery)
due_by g false _ _ = None

abbrev pub closing_of : Machine → Option ℕ → Option Cause
closing_of m None = None
closing_of m (Some l) = closing (m.links l).phase

abbrev pub due : NodeConfig → Machine → Option Act
due g m = due_by g m.dials m.current (closing_of m m.current)

-- no DATA is in hand
abbrev pub IsEmptyHanded : Discovery → Type 0
IsEmptyHanded x = (x.chunk ≡ []) × (x.counted ≡ 0)

-- nothing more happens by itself: all that came is looked at, and no request can go now
pub record IsCalm (x : Discovery) : Type 0 where
  pub empty_handed : IsEmptyHanded x
  pub looked_at : IsLookedAt x.conn
  pub all_put : sendable x ≡ 0

abbrev pub IsCalmBy : Phase → Discovery → Type 0
IsCalmBy live x = IsCalm x
IsCalmBy (faulted code) x = ⊥
IsCalmBy (ending cause) x = ⊥
IsCalmBy _ x = ⊤

-- no call of the world is due, the run goes on, and on no link anything more happens by itself
pub record IsQuiet (m : Machine) : Type 0 where
  pub no_dial : m.dials ≡ false
  pub goes : m.over ≡ false
  pub calm : (l : ℕ) → IsCalmBy (m.links l).phase (m.links l)

-- the link is in this phase, and all is quiet
abbrev pub IsQuietAt : Machine → ℕ → Phase → Type 0
IsQuietAt m l phase = IsQuiet m × ((m.links l).phase ≡ phase)

-- a connection error was told on the link, and what waits is written once
abbrev pub IsFaulted : Machine → ℕ → Type 0
IsFaulted m l = (code : ℕ) × ((m.links l).phase ≡ faulted code)

-- A call that moves nothing comes where one may come that moves something: a link that is dialled is asked whether it is open,
-- one that is open is read while bytes are wanted, and written while something waits. No door is given to listen at
abbrev pub MayBalk : Machine → Way → Type 0
MayBalk m (way.Finish l) = IsQuietAt m l dialling
MayBalk m (way.Read l) = IsQuietAt m l live × (0 < wants m l)
MayBalk m (way.Write l) = (IsQuietAt m l live ⊎ IsFaulted m l) × (0 < length (output m l))
MayBalk m _ = ⊥

-- which entry may come next
abbrev pub MayCome : NodeConfig → Machine → Entry → Type 0
MayCome g m (e.Dialled l to why) = (m.dials ≡ true) × (m.born < l) × (to ≡ g.discovery) × (why ≡ whys.Discovery)
MayCome g m (e.DialFailed to why) = (m.dials ≡ true) × (to ≡ g.discovery) × (why ≡ whys.Discovery)
MayCome g m (e.Opened l) = IsQuietAt m l dialling
MayCome g m (e.Came l bytes) = IsQuietAt m l live × AreOctets bytes × (0 < length bytes) × (length bytes ≤ wants m l)
MayCome g m (e.Ended l) = IsQuietAt m l live × (0 < wants m l)
MayCome g m (e.Broke l) = IsQuietAt m l dialling ⊎ (IsQuietAt m l live ⊎ IsFaulted m l)
MayCome g m (e.Went l bytes) =
    (IsQuietAt m l live ⊎ IsFaulted m l) × (0 < length bytes) × ((rest : List ℕ) × (output m l ≡ bytes ++ rest))
MayCome g m (e.Closed l cause) = closing (m.links l).phase ≡ Some cause
MayCome g m e.Tick = IsQuiet m
MayCome g m (e.Wait ready way) = IsQuiet m
MayCome g m (e.Balked way) = (m.over ≡ false) × MayBalk m way
MayCome g m _ = ⊥

-- frames of the link are looked at: what a connection finds next, and the points that lead to it
pub record IsLook (x : Discovery) (points : List history.Point) (told : Found) (conn : Connection) : Type 0 where
  pub empty_handed : IsEmptyHanded x
  pub found : looks.IsLook x.conn points told conn

-- the DATA in hand and what is held of a message make a message with n octets more, and it is a response
pub record IsResponse (x : Discovery) (r : Response) (n : ℕ) : Type 0 where
  pub message : List ℕ
  pub whole : answer x.framing x.chunk ≡ Ok (record { taken = n; message = Some message })
  pub response : response_of message ≡ Ok r

-- they make a message that is no response, or aren't bytes of messages
pub data IsRefused (x : Discovery) : Type 0 where
  no_response : (message : List ℕ) (n : ℕ) (fault : ResponseFault)
      → answer x.framing x.chunk ≡ Ok (record { taken = n; message = Some message }) → response_of message ≡ Err fault → IsRefused x
  no_message : (fault : GrpcFault) → answer x.framing x.chunk ≡ Err fault → IsRefused x

-- they have no whole message, and DATA is in hand
pub record IsUsed (x : Discovery) (n : ℕ) : Type 0 where
  pub none : answer x.framing x.chunk ≡ Ok (record { taken = length x.chunk; message = None })
  pub counted : n ≡ usable x
  pub some : 0 < x.counted

-- what a point makes of the machine, where it may come next
abbrev pub Steps : NodeConfig → Machine → Point → Machine → Type 0
Steps g m (entry e) n = MayCome g m e × (n ≡ entered g e m)
Steps g m (looked l points told headers) n =
    ((m.links l).phase ≡ live) × (conn : Connection) × IsLook (m.links l) points told conn × (headers ≡ headers_read conn)
    × (n ≡ with_link l (on_found told conn (m.links l)) m)
Steps g m (applied l r) n = ((m.links l).phase ≡ live) × (k : ℕ) × IsResponse (m.links l) r k × (n ≡ with_response l r k m)
Steps g m (refused l) n = ((m.links l).phase ≡ live) × IsRefused (m.links l) × (n ≡ with_link l (ends_for cause.Discovery (m.links l)) m)
Steps g m (used l k) n = ((m.links l).phase ≡ live) × IsUsed (m.links l) k × (n ≡ with_used l k m)
Steps g m (put l bytes) n =
    ((m.links l).phase ≡ live) × (bytes ≡ (m.links l).waiting) × (0 < sendable (m.links l))
    × (n ≡ with_link l (put_requests (m.links l)) m)
Steps g m (stopped cause) n = (m.over ≡ false) × (n ≡ with_stop cause m)

-- a machine stands for the points of a run that leads to it
pub data StandsFor (g : NodeConfig) : Machine → List Point → Type 0 where
  begins : {m : Machine} {points : List Point} → m ≡ fresh g → points ≡ [] → StandsFor g m points
  goes_on : {m n : Machine} {points more : List Point} → StandsFor g m points → (p : Point) → Steps g m p n
      → more ≡ points ++ p ∷ [] → StandsFor g n more
