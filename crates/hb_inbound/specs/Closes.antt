-- How far a link is, by what happened to it: the first cause that applies ends it, and it is closed for that one.
use Rattle.std.specs.Prelude.{⊤, ◌≡◌, ℕ, ◌==◌, if◌then◌else◌, fold, List}
use Rattle.hb_base.specs.declared.cause.Cause.{Cause}
use Rattle.hb_base.specs.declared.cause.Cause.TheVariants as cause
use Rattle.hb_conn.specs.Connection.{Connection}
use Rattle.hb_conn.specs.Observed.{streams_open}
use Rattle.hb_conn.specs.declared.found.Found.{Found}
use Rattle.hb_conn.specs.declared.found.Found.TheVariants as found
use Rattle.hb_front.specs.Faults.{number_of}
use Rattle.hb_world.specs.declared.entry.Entry.{Entry}
use Rattle.hb_world.specs.declared.entry.Entry.TheVariants as e
use Rattle.hb_inbound.specs.Connections.{IsOneHistory}
use Rattle.hb_inbound.specs.Part.{Part, entry, welcomed, crowded, lacked, fronted, misfronted, looked, decided, accepted, refused, reset, done, put, finished, credited, stopped}
use Rattle.hb_inbound.specs.Sides.{AtEach}

pub data Course : Type 0 where
  unborn : Course
  -- it was accepted just now; it is taken in, and its front header isn't whole; it is an HTTP/2 connection
  arriving : Course
  fronting : Course
  serves : Course
  -- its peer sends no more; a connection error of this code was told; it ended for this cause
  hung_up : Course
  faulted : (code : ℕ) → Course
  over : Cause → Course
  closed : Course

-- it ends, where nothing ended it before
abbrev pub ends : Cause → Course → Course
ends cause arriving = over cause
ends cause fronting = over cause
ends cause serves = over cause
ends cause course = course

-- it is taken in; the front header is whole; the peer sends no more, and an unwhole header is at fault; a connection error is told
abbrev pub takes_in : Course → Course
takes_in arriving = fronting
takes_in course = course

abbrev pub opens : Course → Course
opens fronting = serves
opens course = course

abbrev pub hangs_up : Course → Course
hangs_up fronting = over (cause.FrontFault 0)
hangs_up serves = hung_up
hangs_up course = course

abbrev pub faults : ℕ → Course → Course
faults code serves = faulted code
faults code course = course

-- behind a connection error one write is left, or one that fails
abbrev pub writes : Course → Course
writes (faulted code) = over (cause.ConnFault code)
writes course = course

abbrev pub breaks : Course → Course
breaks course = writes (ends cause.Broken course)

abbrev pub course_told : Found → Course → Course
course_told (found.Fault code) course = faults code course
course_told told course = course

abbrev pub course_entry : Entry → Course → Course
course_entry (e.Accepted l door) course = arriving
course_entry (e.Ended l) course = hangs_up course
course_entry (e.Broke l) course = breaks course
course_entry (e.Went l bytes) course = writes course
course_entry (e.Closed l cause) course = closed
course_entry call course = course

abbrev pub course_by : Course → Part → Course
course_by course (entry e) = course_entry e course
course_by course welcomed = takes_in course
course_by course crowded = ends cause.NoRoom course
course_by course lacked = ends cause.NoMemory course
course_by course (fronted seen) = opens course
course_by course (misfronted fault) = ends (cause.FrontFault (number_of fault)) course
course_by course (looked points told headers) = course_told told course
course_by course (stopped cause) = ends cause course
course_by course part = course

abbrev pub course_of : List Part → Course
course_of parts = fold course_by unborn parts

-- a link whose peer sends no more is done where no stream is open
abbrev pub hang_up_cause : Connection → Cause
hang_up_cause c = if streams_open c == 0 then cause.Done else cause.PeerGone

-- it is to be closed for this cause: the first one that ended it
abbrev pub ClosesBy : List Part → Cause → Course → Type 0
ClosesBy before why (over first) = why ≡ first
ClosesBy before why (faulted code) = why ≡ cause.ConnFault code
ClosesBy before why hung_up = (history : IsOneHistory before) × (why ≡ hang_up_cause history.conn)
ClosesBy before why course = ⊥

-- it goes on; it may be written, or tried: behind a connection error once; memory may be wanting for it
abbrev pub GoesOn : Course → Type 0
GoesOn fronting = ⊤
GoesOn serves = ⊤
GoesOn course = ⊥

abbrev pub IsWritable : Course → Type 0
IsWritable serves = ⊤
IsWritable (faulted code) = ⊤
IsWritable course = ⊥

abbrev pub MayLack : Course → Type 0
MayLack arriving = ⊤
MayLack course = GoesOn course

abbrev pub IsTried : Course → Type 0
IsTried (faulted code) = ⊤
IsTried course = GoesOn course

-- which entry stands on the link
abbrev pub EntryStands : List Part → Course → Entry → Type 0
EntryStands before course (e.Accepted l door) = course ≡ unborn
EntryStands before course (e.Came l bytes) = GoesOn course
EntryStands before course (e.Ended l) = GoesOn course
EntryStands before course (e.Went l bytes) = IsWritable course
EntryStands before course (e.Broke l) = IsTried course
EntryStands before course (e.Balked way) = IsTried course
EntryStands before course (e.Closed l cause) = ClosesBy before cause course
EntryStands before course call = ⊥

-- behind its end nothing is looked at on it, and nothing put
abbrev pub ClosesAt : List Part → Part → Type 0
ClosesAt before (entry e) = EntryStands before (course_of before) e
ClosesAt before welcomed = course_of before ≡ arriving
ClosesAt before crowded = course_of before ≡ arriving
ClosesAt before lacked = MayLack (course_of before)
ClosesAt before (fronted seen) = course_of before ≡ fronting
ClosesAt before (misfronted fault) = course_of before ≡ fronting
ClosesAt before (looked points told headers) = course_of before ≡ serves
ClosesAt before (decided s full answer) = course_of before ≡ serves
ClosesAt before (accepted s note) = course_of before ≡ serves
ClosesAt before (refused s status resets note) = course_of before ≡ serves
ClosesAt before (reset s code note) = course_of before ≡ serves
ClosesAt before (done s note) = course_of before ≡ serves
ClosesAt before (put s bytes) = course_of before ≡ serves
ClosesAt before (finished s) = course_of before ≡ serves
ClosesAt before (credited s n) = course_of before ≡ serves
ClosesAt before part = ⊤

abbrev pub CloseLaw : List Part → Type 0
CloseLaw parts = AtEach ClosesAt parts
