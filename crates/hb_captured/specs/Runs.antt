-- Which part may come next, and what it makes of the link.
use Rattle.std.specs.Prelude.{⊤, ◌≡◌, ◌≢◌, ◌⊎◌, ℕ, ◌^◌, ◌-◌, ◌<◌, ◌≤◌, true, false, List, [], ◌∷◌, ◌++◌, length, min, Option, Some, None, IsSome}
use Rattle.hb_base.specs.declared.cause.Cause.{Cause}
use Rattle.hb_base.specs.declared.cause.Cause.TheVariants as cause
use Rattle.hb_base.specs.declared.door.Door.{Door}
use Rattle.hb_base.specs.declared.door.Door.TheVariants as door
use Rattle.hb_base.specs.declared.door.Why.{Why}
use Rattle.hb_base.specs.declared.note.Note.{Note}
use Rattle.hb_base.specs.declared.note.Note.TheVariants as note
use Rattle.hb_base.specs.declared.peer.Peer.{Peer}
use Rattle.hb_base.specs.declared.target.Target.{Target}
use Rattle.hb_frames.specs.Frames.{AreOctets}
use Rattle.hb_front.specs.Faults.{number_of}
use Rattle.hb_front.specs.Reading.{Seen, IsAnswer, Whole, Fault}
use Rattle.hb_gateway.specs.Response as response
use Rattle.hb_gateway.specs.Response.{Heard, opens, brings, fails}
use Rattle.hb_held.specs.Held.{Resources}
use Rattle.hb_held.specs.Outcome.{after_response}
use Rattle.hb_tunnel.specs.Way.{after, takes, is_done}
use Rattle.hb_world.specs.declared.entry.Entry.{Entry}
use Rattle.hb_world.specs.declared.entry.Entry.TheVariants as e
use Rattle.hb_world.specs.declared.entry.Way.TheVariants as way
use Rattle.hb_captured.specs.Answer.{aims, refuses, answer_on, straight_to, address_of, key_of, why_for}
use Rattle.hb_captured.specs.Calm.{room, wants, up_wants, output, up_output, IsCalm, IsQuiet}
use Rattle.hb_captured.specs.Captured.{Captured, Stage, unborn, arriving, fronting, due, opening, accepting, live, failed, ended, over, no_link, at_stage, ends_for, ring_down, is_raw, peer_noted, named, unnamed, fronted_by, entered, up_entered, left_behind, told_by, left_now, rejudged, may_shut_up, may_shut, is_through}
use Rattle.hb_captured.specs.Part.{Part, entry, up, welcomed, crowded, lacked, misfronted, fronted, refused, accepted, roomless, asked, hears, put, finished, credited, loosed, completed, left, done, applied, stopped}

-- one link, and what is held beside it
pub record Local : Type 0 where
  pub held : Resources
  pub link : Captured

abbrev pub with_link : Captured → Local → Local
with_link x a = record a { link = x }

-- ENTRIES OF THE LINK

-- while all is quiet, at a stage
abbrev pub IsAt : Stage → Captured → Type 0
IsAt stage x = IsQuiet x × (x.stage ≡ stage)

-- the link may be tried; bytes may be read of it
abbrev pub IsTried : Captured → Type 0
IsTried x = IsAt fronting x ⊎ (IsAt opening x ⊎ IsAt live x)

abbrev pub IsReadable : Captured → Type 0
IsReadable x = IsTried x × (0 < wants x)

-- bytes that are the first of those that wait
abbrev pub AreFirst : List ℕ → List ℕ → Type 0
AreFirst bytes held = (0 < length bytes) × ((rest : List ℕ) × (held ≡ bytes ++ rest))

-- bytes that may be read, so many at most
abbrev pub MayRead : List ℕ → ℕ → Type 0
MayRead bytes most = AreOctets bytes × (0 < length bytes) × (length bytes ≤ most)

-- the doors at which a captured link may come
abbrev pub Captures : Door → Type 0
Captures door.Inbound = ⊥
Captures _ = ⊤

-- which entry may come on the link l; a call that moves nothing comes where one may come that moves something
abbrev pub MayCome : ℕ → Captured → Entry → Type 0
MayCome l x (e.Accepted k d) = (k ≡ l) × (x.stage ≡ unborn) × Captures d
MayCome l x (e.Came k bytes) = (k ≡ l) × IsReadable x × MayRead bytes (wants x)
MayCome l x (e.Ended k) = (k ≡ l) × IsReadable x
MayCome l x (e.Went k bytes) = (k ≡ l) × IsAt live x × AreFirst bytes (output x)
MayCome l x (e.Broke k) = (k ≡ l) × IsTried x
MayCome l x (e.Shut k) = (k ≡ l) × IsCalm x × (x.stage ≡ live) × (may_shut x ≡ true)
MayCome l x (e.Closed k why) = (k ≡ l) × IsCalm x × (x.stage ≡ over why) × (x.closed ≡ false)
MayCome l x (e.Balked (way.Read k)) = (k ≡ l) × IsReadable x
MayCome l x (e.Balked (way.Write k)) = (k ≡ l) × IsAt live x × (0 < length (output x))
MayCome l x _ = ⊥

-- ENTRIES OF THE UPSTREAM

-- on the upstream u, while all is quiet
abbrev pub IsUp : Stage → ℕ → Captured → Type 0
IsUp stage u x = IsAt stage x × (x.up ≡ u) × (0 < u)

-- a dial that is due is made, of the address, for the link
abbrev pub IsDial : ℕ → Captured → Target → Why → Type 0
IsDial l x to why = IsCalm x × (x.stage ≡ due) × (to ≡ address_of x.aim) × (why ≡ why_for x.aim x.door l)

-- which entry may come on the upstream of the link l: that one isn't a link to a gateway
abbrev pub UpMayCome : ℕ → Captured → Entry → Type 0
UpMayCome l x (e.Dialled u to why) = IsDial l x to why × (key_of x.aim ≡ None) × (0 < u) × (u ≢ l)
UpMayCome l x (e.DialFailed to why) = IsDial l x to why
UpMayCome l x (e.Opened u) = IsUp opening u x
UpMayCome l x (e.Came u bytes) = IsUp live u x × MayRead bytes (up_wants x)
UpMayCome l x (e.Ended u) = IsUp live u x × (0 < up_wants x)
UpMayCome l x (e.Went u bytes) = IsUp live u x × AreFirst bytes (up_output x)
UpMayCome l x (e.Broke u) = IsUp opening u x ⊎ IsUp live u x
UpMayCome l x (e.Shut u) = IsCalm x × (x.stage ≡ live) × (x.up ≡ u) × (0 < u) × (may_shut_up x ≡ true)
UpMayCome l x (e.Closed u why) = IsCalm x × (x.stage ≡ over why) × (x.up ≡ u) × (0 < u)
UpMayCome l x (e.Balked (way.Finish u)) = IsUp opening u x
UpMayCome l x (e.Balked (way.Read u)) = IsUp live u x × (0 < up_wants x)
UpMayCome l x (e.Balked (way.Write u)) = IsUp live u x × (0 < length (up_output x))
UpMayCome l x _ = ⊥

-- THE NOTES

-- a count of bytes stops at 2^64 - 1
abbrev pub counted : ℕ → ℕ
counted n = min n (2 ^ 64 - 1)

-- the notes of a link l, whose stream is 0: its verdict, and its end
abbrev pub verdict_note : (l status : ℕ) → Peer → Target → Note
verdict_note l status peer target = note.Verdict l 0 status peer (Some target)

abbrev pub end_note : ℕ → Cause → (went_up went_down : ℕ) → Note
end_note l cause went_up went_down = note.End l 0 cause (counted went_up) (counted went_down)

-- one that ended while it was pending has this status, where the cause has one (RFC 9110 section 15)
abbrev pub failure_status : Cause → Option ℕ
failure_status cause.Revoked = Some 401
failure_status cause.UpFault = Some 502
failure_status (cause.UpRefused n) = Some 502
failure_status cause.NoRoom = Some 503
failure_status _ = None

abbrev pub note_of : ℕ → Captured → Option ℕ → Option Note
note_of l x None = None
note_of l x (Some status) = Some (verdict_note l status (named x) x.target)

-- the note of an end
abbrev pub left_note : ℕ → Captured → Stage → Option Note → Type 0
left_note l x (failed cause) made = made ≡ note_of l x (failure_status cause)
left_note l x (ended cause) made = made ≡ Some (end_note l cause x.went_up x.went_down)
left_note l x _ made = ⊥

-- where memory may lack: at the link's birth, and where its header is whole
abbrev pub Lacks : Stage → Captured → Type 0
Lacks arriving x = ⊤
Lacks fronting x = (seen : Seen) × IsAnswer x.front (Whole seen)
Lacks _ x = ⊥

-- WHAT IS HEARD ON ITS STREAM

-- bytes that fit behind those that wait, until the stream ended
abbrev pub Fits : List ℕ → Captured → Type 0
Fits bytes x = (x.ways.down.has_ended ≡ false) × (length bytes ≤ room (ring_down x.door) x.ways.down)

-- that it is open while it is asked for; bytes and an end while it lives; and its failure
abbrev pub MayHear : Stage → Heard → Captured → Type 0
MayHear opening (opens end) x = ⊤
MayHear live (brings bytes) x = Fits bytes x
MayHear live response.ends x = x.ways.down.has_ended ≡ false
MayHear stage (fails why) x = ⊤
MayHear stage heard x = ⊥

abbrev pub IsOnStream : Captured → Type 0
IsOnStream x = is_raw x ≡ false

-- it lives, on a stream
abbrev pub Lives : Captured → Type 0
Lives x = IsOnStream x × (x.stage ≡ live)

-- the tunnel ended
abbrev pub HasEnded : Stage → Type 0
HasEnded (failed cause) = ⊤
HasEnded (ended cause) = ⊤
HasEnded (over cause) = ⊤
HasEnded stage = ⊥

-- the header is whole, and says so
abbrev pub IsFronted : Captured → Seen → Type 0
IsFronted x seen = (x.stage ≡ fronting) × IsAnswer x.front (Whole seen)

-- WHICH PART MAY COME NEXT
abbrev pub MayGo : ℕ → Local → Part → Type 0
MayGo l a (entry e) = MayCome l a.link e
MayGo l a (up e) = UpMayCome l a.link e
MayGo l a welcomed = a.link.stage ≡ arriving
MayGo l a crowded = a.link.stage ≡ arriving
MayGo l a lacked = Lacks a.link.stage a.link
MayGo l a (misfronted fault) = (a.link.stage ≡ fronting) × IsAnswer a.link.front (Fault fault)
MayGo l a (fronted seen routing aim) =
    IsFronted a.link seen × (answer_on a.link.door a.held routing seen ≡ aims aim)
MayGo l a (refused seen routing why status made) =
    IsFronted a.link seen × (answer_on a.link.door a.held routing seen ≡ refuses why status)
    × (made ≡ verdict_note l status (peer_noted a.link.door seen) seen.destination)
MayGo l a (accepted made) = (a.link.stage ≡ accepting) × (made ≡ verdict_note l 200 (named a.link) a.link.target)
MayGo l a roomless = (a.link.stage ≡ due) × IsSome (key_of a.link.aim)
MayGo l a (asked gate stream) = (a.link.stage ≡ due) × IsSome (key_of a.link.aim) × (0 < gate)
MayGo l a (hears heard begun) = IsOnStream a.link × MayHear a.link.stage heard a.link
MayGo l a (put bytes) = Lives a.link × AreFirst bytes a.link.ways.up.held
MayGo l a finished = Lives a.link × (is_done a.link.ways.up ≡ true) × (a.link.up_shut ≡ false)
MayGo l a (credited n) = Lives a.link × (0 < a.link.owed) × (n ≤ a.link.owed)
MayGo l a (loosed begun) = IsOnStream a.link × HasEnded a.link.stage
MayGo l a (completed begun made) =
    Lives a.link × (is_through a.link ≡ true) × (a.link.up_shut ≡ true)
    × (made ≡ end_note l cause.Done begun a.link.went_down)
MayGo l a (left made) = left_note l a.link a.link.stage made × (is_raw a.link ≡ true)
MayGo l a (done made) =
    (a.link.stage ≡ live) × (is_raw a.link ≡ true) × (is_through a.link ≡ true)
    × (made ≡ end_note l cause.Done a.link.went_up a.link.went_down)
MayGo l a (applied r) = ⊤
MayGo l a (stopped cause) = ⊤

-- WHAT IT MAKES OF THE LINK
abbrev pub next_link : Captured → Part → Captured
next_link x (entry e) = entered e x
next_link x (up e) = up_entered e x
next_link x welcomed = at_stage fronting x
next_link x crowded = ends_for cause.NoRoom x
next_link x lacked = ends_for cause.NoMemory x
next_link x (misfronted fault) = ends_for (cause.FrontFault (number_of fault)) x
next_link x (fronted seen routing aim) = fronted_by seen aim due x
next_link x (refused seen routing why status made) = unnamed (fronted_by seen (straight_to seen.destination None) (over why) x)
next_link x (accepted made) = unnamed (at_stage live x)
next_link x roomless = ends_for cause.NoRoom x
next_link x (asked gate stream) = record x { stage = opening; gate = gate; stream = stream }
next_link x (hears heard begun) = told_by heard begun x
next_link x (put bytes) = record x { ways = record x.ways { up = after x.ways.up (takes (length bytes)) } }
next_link x finished = record x { up_shut = true }
next_link x (credited n) = record x { owed = 0 }
next_link x (loosed begun) = left_behind begun x
next_link x (completed begun made) = at_stage (over cause.Done) (left_behind begun x)
next_link x (left made) = left_now x
next_link x (done made) = at_stage (over cause.Done) x
next_link x (applied r) = x
next_link x (stopped cause) = ends_for cause x

-- a response judges it by what is held then
abbrev pub next : Local → Part → Local
next a (applied r) = record { held = after_response a.held r; link = rejudged (after_response a.held r) a.link }
next a p = with_link (next_link a.link p) a

abbrev pub Steps : ℕ → Local → Part → Local → Type 0
Steps l a p b = MayGo l a p × (b ≡ next a p)

-- a link stands for the parts of a run that leads to it, before which this was held
pub data StandsFor (l : ℕ) (start : Resources) : Local → List Part → Type 0 where
  begins : {a : Local} {parts : List Part} → a ≡ record { held = start; link = no_link } → parts ≡ [] → StandsFor l start a parts
  goes_on : {a b : Local} {parts more : List Part} → StandsFor l start a parts → (p : Part) → Steps l a p b
      → more ≡ parts ++ p ∷ [] → StandsFor l start b more
