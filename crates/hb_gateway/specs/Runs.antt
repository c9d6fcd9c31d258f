-- Which part may come next on the link g to a gateway, and what it makes of it.
use Rattle.std.specs.Prelude.{◌≡◌, ◌⊎◌, ℕ, ◌<◌, ◌≤◌, true, false, List, [], ◌∷◌, ◌++◌, length, Ok, Some, None}
use Rattle.hb_base.specs.declared.cause.Cause.{Cause}
use Rattle.hb_base.specs.declared.cause.Cause.TheVariants as cause
use Rattle.hb_base.specs.declared.door.Why.TheVariants as whys
use Rattle.hb_conn.specs.Connection.{Connection}
use Rattle.hb_conn.specs.Observed as connection
use Rattle.hb_conn.specs.Observed.{next_stream, octets_held, own_side_open, creditable, count_put, data_put, end_put, end_waits, aborted, sides}
use Rattle.hb_frames.specs.Frames.{AreOctets}
use Rattle.hb_inbound.specs.Block.{HoldsBlock}
use Rattle.hb_inbound.specs.Calm.{data_waits}
use Rattle.hb_kept.specs.Looks.{IsLook}
use Rattle.hb_kept.specs.Sides.{neither}
use Rattle.hb_model.specs.Discovery.{headers_read}
use Rattle.hb_world.specs.declared.entry.Entry.{Entry}
use Rattle.hb_world.specs.declared.entry.Entry.TheVariants as e
use Rattle.hb_world.specs.declared.entry.Way.TheVariants as way
use Rattle.hb_gateway.specs.Calm.{wants, output, AllReset, AllTold, IsCalm, IsQuiet, close_due}
use Rattle.hb_gateway.specs.Gateway.{Gateway, Phase, unborn, opening, serving, faulted, closing, closed, no_link, stage_of, with_phase, at_stream, at_stage, carries, offers, asked_on, went, came, on_found, end_cause, broken_by, stops_by, dropped_to}
use Rattle.hb_gateway.specs.Hears.{all_hear}
use Rattle.hb_gateway.specs.Key.{Key, MayBeWritten, front_of}
use Rattle.hb_gateway.specs.Part.{Part, entry, dialled, lacked, looked, asks, tells, put, finished, credited, reset, dropped, done, stopped}
use Rattle.hb_gateway.specs.Response.{carrying, failing, over, is_living}

abbrev pub IsQuietAt : Phase → Gateway → Type 0
IsQuietAt phase x = IsQuiet x × (x.phase ≡ phase)

-- a connection error was told, and what waits is written once
abbrev pub IsFaulted : Gateway → Type 0
IsFaulted x = IsCalm x × (code : ℕ) × (x.phase ≡ faulted code)

abbrev pub IsReadable : Gateway → Type 0
IsReadable x = IsQuietAt serving x × (0 < wants x)

abbrev pub IsWritable : Gateway → Type 0
IsWritable x = IsQuietAt serving x ⊎ IsFaulted x

-- which entry may come; a call that moves nothing comes where one may come that moves something
abbrev pub MayCome : ℕ → Gateway → Entry → Type 0
MayCome g x (e.Opened k) = (k ≡ g) × IsQuietAt opening x
MayCome g x (e.Came k bytes) = (k ≡ g) × IsReadable x × AreOctets bytes × (0 < length bytes) × (length bytes ≤ wants x)
MayCome g x (e.Ended k) = (k ≡ g) × IsReadable x
MayCome g x (e.Went k bytes) = (k ≡ g) × IsWritable x × (0 < length bytes) × ((rest : List ℕ) × (output x ≡ bytes ++ rest))
MayCome g x (e.Broke k) = (k ≡ g) × (IsQuietAt opening x ⊎ IsWritable x)
MayCome g x (e.Closed k cause) = (k ≡ g) × IsCalm x × (close_due x.phase ≡ Some cause)
MayCome g x (e.Balked (way.Finish k)) = (k ≡ g) × IsQuietAt opening x
MayCome g x (e.Balked (way.Read k)) = (k ≡ g) × IsReadable x
MayCome g x (e.Balked (way.Write k)) = (k ≡ g) × IsWritable x × (0 < length (output x))
MayCome g x _ = ⊥

abbrev pub entered : Entry → Gateway → Gateway
entered (e.Opened k) x = with_phase serving x
entered (e.Came k bytes) x = came bytes x
entered (e.Ended k) x = with_phase (closing (end_cause x.conn)) x
entered (e.Went k bytes) x = went (length bytes) x
entered (e.Broke k) x = with_phase (broken_by x.phase) x
entered (e.Closed k cause) x = with_phase closed x
entered _ x = x

-- its dial, for a captured link: at the gateway of the key, whose identity may be written
abbrev pub IsBirth : ℕ → Gateway → Entry → Key → Type 0
IsBirth g x (e.Dialled k to (whys.Gateway a)) key = (k ≡ g) × (x.phase ≡ unborn) × (to ≡ key.gateway) × MayBeWritten key
IsBirth g x _ key = ⊥

abbrev pub Carries : Phase → Type 0
Carries phase = carries phase ≡ true

-- a stream carries bytes
abbrev pub IsOpenOn : ℕ → Gateway → Type 0
IsOpenOn s x = Carries x.phase × (stage_of x s ≡ carrying)

-- both of its sides ended, and this end's END_STREAM went, whole
abbrev pub IsThroughOn : ℕ → Gateway → Type 0
IsThroughOn s x = IsOpenOn s x × (sides x.conn s ≡ neither) × (end_waits x.conn s ≡ false)

-- the run ends, and each tunnel with it
abbrev pub stopped_for : Cause → Gateway → Gateway
stopped_for cause x = with_phase (stops_by cause x.phase) (all_hear (stopped cause) x)

-- where memory may lack: for a header block that came
abbrev pub Lacks : Phase → Gateway → Type 0
Lacks serving x = AllTold x × HoldsBlock (octets_held x.conn)
Lacks phase x = ⊥

-- WHAT A PART MAKES OF A LINK, WHERE IT MAY COME NEXT
abbrev pub Steps : ℕ → Gateway → Part → Gateway → Type 0
Steps g x (entry e) y = MayCome g x e × (y ≡ entered e (all_hear (entry e) x))
Steps g x (dialled e key) y = IsBirth g x e key × (y ≡ record x { key = key; phase = opening; front = front_of key })
Steps g x lacked y = Lacks x.phase x × (y ≡ with_phase (closing cause.NoMemory) (all_hear lacked x))
Steps g x (looked points told headers) y =
    (x.phase ≡ serving) × AllReset x × AllTold x × (conn : Connection) × IsLook x.conn points told conn × (headers ≡ headers_read conn)
    × (y ≡ on_found told conn (all_hear (looked points told headers) x))
Steps g x (asks s captured authority) y =
    (offers x ≡ true) × (next_stream x.conn ≡ Ok s) × (y ≡ asked_on s captured authority x)
Steps g x (tells s heard begun) y =
    ((x.streams s).mail ≡ Some heard) × (begun ≡ (x.streams s).begun) × (y ≡ at_stream s (λ t. record t { mail = None }) x)
Steps g x (put s bytes count) y =
    IsOpenOn s x × (own_side_open x.conn s ≡ true) × (0 < count) × (count ≡ count_put x.conn s bytes)
    × (y ≡ record x { conn = data_put x.conn s bytes })
Steps g x (finished s) y =
    IsOpenOn s x × (own_side_open x.conn s ≡ true) × (data_waits x.conn s ≡ false) × (y ≡ record x { conn = end_put x.conn s })
Steps g x (credited s n) y =
    IsOpenOn s x × (n ≤ creditable x.conn s) × (y ≡ record x { conn = connection.credited x.conn s n })
Steps g x (reset s code) y =
    Carries x.phase × (stage_of x s ≡ failing code)
    × (y ≡ record (at_stream s (at_stage over) x) { conn = aborted x.conn s code })
Steps g x (dropped s begun) y =
    (is_living (stage_of x s) ≡ true) × ((x.streams s).mail ≡ None) × (begun ≡ (x.streams s).begun)
    × (y ≡ at_stream s (at_stage (dropped_to s x)) x)
Steps g x (done s begun) y =
    IsThroughOn s x × ((x.streams s).mail ≡ None) × (begun ≡ (x.streams s).begun) × (y ≡ at_stream s (at_stage over) x)
Steps g x (stopped cause) y = AllTold x × (y ≡ stopped_for cause x)

-- a link stands for the parts of a run that leads to it
pub data StandsFor (g : ℕ) : Gateway → List Part → Type 0 where
  begins : {x : Gateway} {parts : List Part} → x ≡ no_link → parts ≡ [] → StandsFor g x parts
  goes_on : {x y : Gateway} {parts more : List Part} → StandsFor g x parts → (p : Part) → Steps g x p y
      → more ≡ parts ++ p ∷ [] → StandsFor g y more
