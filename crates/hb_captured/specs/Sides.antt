-- What a run says of its two sides, of what is held, and of how far the link is: the first cause that applies ends it.
use Rattle.std.specs.Prelude.{◌≡◌, ℕ, if◌then◌else◌, ◌||◌, Bool, true, false, fold, List, [], ◌∷◌, ◌++◌, drop, Option, Some, None}
use Rattle.std.specs.List.{flat_map}
use Rattle.hb_base.specs.declared.cause.Cause.{Cause}
use Rattle.hb_base.specs.declared.cause.Cause.TheVariants as cause
use Rattle.hb_base.specs.declared.door.Door.{Door}
use Rattle.hb_base.specs.declared.door.Door.TheVariants as door
use Rattle.hb_front.specs.Faults.{number_of}
use Rattle.hb_front.specs.Reading.{Seen}
use Rattle.hb_gateway.specs.Response as response
use Rattle.hb_gateway.specs.Response.{Heard, opens, brings, fails}
use Rattle.hb_held.specs.Held.{Resources}
use Rattle.hb_held.specs.Outcome.{after_response}
use Rattle.hb_table.specs.Judgement.{judged}
use Rattle.hb_table.specs.declared.judgement.Judged.{Judged}
use Rattle.hb_table.specs.declared.judgement.Judged.TheVariants.{Admitted}
use Rattle.hb_world.specs.declared.entry.Entry.{Entry}
use Rattle.hb_world.specs.declared.entry.Entry.TheVariants as e
use Rattle.hb_captured.specs.Answer.{Aim}
use Rattle.hb_captured.specs.Captured.{peer_in, judges}
use Rattle.hb_captured.specs.Part.{Part, entry, up, welcomed, crowded, lacked, misfronted, fronted, refused, accepted, roomless, asked, hears, put, finished, credited, loosed, completed, left, done, applied, stopped}

-- THE DOOR at which it was accepted

abbrev pub door_entry : Door → Entry → Door
door_entry door (e.Accepted l d) = d
door_entry door _ = door

abbrev pub door_by : Door → Part → Door
door_by door (entry e) = door_entry door e
door_by door _ = door

abbrev pub door_of : List Part → Door
door_of parts = fold door_by door.Plain parts

-- BYTES

-- those that came by an entry, and those that went
abbrev pub came_by : Entry → List ℕ
came_by (e.Came l bytes) = bytes
came_by _ = []

abbrev pub went_by : Entry → List ℕ
went_by (e.Went l bytes) = bytes
went_by _ = []

-- on the link itself
abbrev pub came_in : Part → List ℕ
came_in (entry e) = came_by e
came_in _ = []

abbrev pub went_in : Part → List ℕ
went_in (entry e) = went_by e
went_in _ = []

abbrev pub link_came : List Part → List ℕ
link_came parts = flat_map came_in parts

abbrev pub link_went : List Part → List ℕ
link_went parts = flat_map went_in parts

-- on its upstream, or its stream
abbrev pub brought_by : Heard → List ℕ
brought_by (brings bytes) = bytes
brought_by heard = []

abbrev pub up_came_in : Part → List ℕ
up_came_in (up e) = came_by e
up_came_in (hears heard begun) = brought_by heard
up_came_in _ = []

abbrev pub up_went_in : Part → List ℕ
up_went_in (up e) = went_by e
up_went_in (put bytes) = bytes
up_went_in _ = []

abbrev pub up_came : List Part → List ℕ
up_came parts = flat_map up_came_in parts

abbrev pub up_went : List Part → List ℕ
up_went parts = flat_map up_went_in parts

-- what the front header told, once it is whole
abbrev pub header_by : Option Seen → Part → Option Seen
header_by told (fronted seen routing aim) = Some seen
header_by told (refused seen routing why status note) = Some seen
header_by told _ = told

abbrev pub header_of : List Part → Option Seen
header_of parts = fold header_by None parts

-- where its bytes are to go
abbrev pub aim_by : Option Aim → Part → Option Aim
aim_by aim (fronted seen routing new) = Some new
aim_by aim _ = aim

abbrev pub aim_of : List Part → Option Aim
aim_of parts = fold aim_by None parts

-- the bytes behind the header are the tunnel's
abbrev pub behind : Option Seen → List ℕ → List ℕ
behind None bytes = []
behind (Some seen) bytes = drop seen.length bytes

abbrev pub raw_came : List Part → List ℕ
raw_came parts = behind (header_of parts) (link_came parts)

-- WHAT HAPPENED

-- an entry is an end, an opening, a shut, or a close
abbrev pub is_end : Entry → Bool
is_end (e.Ended l) = true
is_end _ = false

abbrev pub is_opening : Entry → Bool
is_opening (e.Opened l) = true
is_opening _ = false

abbrev pub is_shut : Entry → Bool
is_shut (e.Shut l) = true
is_shut _ = false

abbrev pub is_close : Entry → Bool
is_close (e.Closed l why) = true
is_close _ = false

-- so is what is heard on a stream
abbrev pub ends_there : Heard → Bool
ends_there (opens end) = end
ends_there response.ends = true
ends_there heard = false

abbrev pub opens_there : Heard → Bool
opens_there (opens end) = true
opens_there heard = false

-- one of the link says so
abbrev pub on_link : (Entry → Bool) → Part → Bool
on_link is (entry e) = is e
on_link is _ = false

-- the upstream or the stream opened, ended, or was shut
abbrev pub opens_up : Part → Bool
opens_up (up e) = is_opening e
opens_up (hears heard begun) = opens_there heard
opens_up _ = false

abbrev pub ends_up : Part → Bool
ends_up (up e) = is_end e
ends_up (hears heard begun) = ends_there heard
ends_up _ = false

abbrev pub shuts_up : Part → Bool
shuts_up (up e) = is_shut e
shuts_up finished = true
shuts_up _ = false

abbrev pub was : (Part → Bool) → List Part → Bool
was is parts = fold (λ before p. is p || before) false parts

abbrev pub was_on_link : (Entry → Bool) → List Part → Bool
was_on_link is parts = fold (λ was p. on_link is p || was) false parts

-- the upstream that was dialled, until it is closed
abbrev pub up_by : ℕ → Entry → ℕ
up_by u (e.Dialled k to why) = k
up_by u (e.Closed k why) = 0
up_by u _ = u

abbrev pub up_in : ℕ → Part → ℕ
up_in u (up e) = up_by u e
up_in u _ = u

abbrev pub up_of : List Part → ℕ
up_of parts = fold up_in 0 parts

-- its stream, of the link to a gateway of this number, until it is left
pub record Stream : Type 0 where
  pub gate : ℕ
  pub number : ℕ

abbrev pub no_stream : Stream
no_stream = record { gate = 0; number = 0 }

abbrev pub stream_told : Stream → Heard → Stream
stream_told stream (fails why) = no_stream
stream_told stream heard = stream

abbrev pub stream_by : Stream → Part → Stream
stream_by stream (asked gate number) = record { gate = gate; number = number }
stream_by stream (hears heard begun) = stream_told stream heard
stream_by stream (loosed begun) = no_stream
stream_by stream (completed begun note) = no_stream
stream_by stream _ = stream

abbrev pub stream_of : List Part → Stream
stream_of parts = fold stream_by no_stream parts

-- a stream was asked for
abbrev pub is_asked : Part → Bool
is_asked (asked gate number) = true
is_asked _ = false

-- how many bytes have begun to go on it where it was left
abbrev pub begun_told : Option ℕ → Heard → ℕ → Option ℕ
begun_told count (fails why) begun = Some begun
begun_told count heard begun = count

abbrev pub begun_by : Option ℕ → Part → Option ℕ
begun_by count (hears heard begun) = begun_told count heard begun
begun_by count (loosed begun) = Some begun
begun_by count (completed begun note) = Some begun
begun_by count _ = count

abbrev pub begun_of : List Part → Option ℕ
begun_of parts = fold begun_by None parts

-- WHAT IS HELD

abbrev pub held_by : Resources → Part → Resources
held_by held (applied r) = after_response held r
held_by held _ = held

abbrev pub held : Resources → List Part → Resources
held start parts = fold held_by start parts

-- the peer of a header is admitted at its destination
abbrev pub judged_in : Resources → Seen → Judged
judged_in held seen = judged held (peer_in seen) seen.destination

-- HOW FAR IT IS

pub data Course : Type 0 where
  unborn : Course
  arriving : Course
  fronting : Course
  -- its header is whole, and its upstream isn't open yet; bytes come and go; it ended for this cause
  pending : Course
  lives : Course
  over : Cause → Course

-- the first end counts
abbrev pub ends : Cause → Course → Course
ends cause unborn = unborn
ends cause (over first) = over first
ends cause course = over cause

-- the link sends no more: an unwhole header is at fault
abbrev pub hangs_up : Course → Course
hangs_up fronting = over (cause.FrontFault 0)
hangs_up course = course

abbrev pub course_entry : Entry → Course → Course
course_entry (e.Accepted l d) course = arriving
course_entry (e.Ended l) course = hangs_up course
course_entry (e.Broke l) course = ends cause.PeerGone course
course_entry _ course = course

abbrev pub course_up : Entry → Course → Course
course_up (e.DialFailed to why) course = ends cause.UpFault course
course_up (e.Broke u) course = ends cause.UpFault course
course_up _ course = course

abbrev pub course_told : Heard → Course → Course
course_told (fails why) course = ends why course
course_told heard course = course

-- an update ends exactly what it no longer admits
abbrev pub ends_judged : Judged → Course → Course
ends_judged Admitted course = course
ends_judged _ course = ends cause.Revoked course

abbrev pub ends_at : Resources → Option Seen → Course → Course
ends_at held (Some seen) pending = ends_judged (judged_in held seen) pending
ends_at held (Some seen) lives = ends_judged (judged_in held seen) lives
ends_at held told course = course

-- what a part makes of it at this door, behind which this is held, and in front of which the header told this
abbrev pub course_by : Door → Resources → Option Seen → Course → Part → Course
course_by door held told course (entry e) = course_entry e course
course_by door held told course (up e) = course_up e course
course_by door held told course welcomed = fronting
course_by door held told course crowded = ends cause.NoRoom course
course_by door held told course lacked = ends cause.NoMemory course
course_by door held told course (misfronted fault) = ends (cause.FrontFault (number_of fault)) course
course_by door held told course (fronted seen routing aim) = pending
course_by door held told course (refused seen routing why status note) = ends why course
course_by door held told course (accepted note) = lives
course_by door held told course roomless = ends cause.NoRoom course
course_by door held told course (asked gate stream) = course
course_by door held told course (hears heard begun) = course_told heard course
course_by door held told course (put bytes) = course
course_by door held told course finished = course
course_by door held told course (credited n) = course
course_by door held told course (loosed begun) = course
course_by door held told course (completed begun note) = ends cause.Done course
course_by door held told course (left made) = course
course_by door held told course (done note) = ends cause.Done course
course_by door held told course (applied r) = if judges door then ends_at held told course else course
course_by door held told course (stopped cause) = ends cause course

pub record Known : Type 0 where
  pub door : Door
  pub held : Resources
  pub header : Option Seen
  pub course : Course

abbrev pub known_by : Known → Part → Known
known_by k p = record {
  door = door_by k.door p;
  held = held_by k.held p;
  header = header_by k.header p;
  course = course_by k.door (held_by k.held p) k.header k.course p;
}

abbrev pub known : Resources → List Part → Known
known start parts = fold known_by (record { door = door.Plain; held = start; header = None; course = unborn }) parts

abbrev pub course_of : Resources → List Part → Course
course_of start parts = (known start parts).course

-- PLACES

-- at each place of a run: what holds of the parts before it and of the part there
abbrev pub AtEach : (List Part → Part → Type 0) → List Part → Type 0
AtEach P parts = (before : List Part) (p : Part) (behind : List Part) → parts ≡ before ++ p ∷ behind → P before p
