-- How far a link to a gateway is, by what happened to it: the first cause that applies ends it, and it is closed for that one.
use Rattle.std.specs.Prelude.{⊤, ◌≡◌, ℕ, fold, List}
use Rattle.hb_base.specs.declared.cause.Cause.{Cause}
use Rattle.hb_base.specs.declared.cause.Cause.TheVariants as cause
use Rattle.hb_conn.specs.declared.found.Found.{Found}
use Rattle.hb_conn.specs.declared.found.Found.TheVariants as found
use Rattle.hb_gateway.specs.Connections.{IsOneHistory}
use Rattle.hb_gateway.specs.Gateway.{end_cause}
use Rattle.hb_gateway.specs.Part.{Part, entry, dialled, lacked, looked, asks, put, finished, credited, reset, done, stopped, AtEach}
use Rattle.hb_world.specs.declared.entry.Entry.{Entry}
use Rattle.hb_world.specs.declared.entry.Entry.TheVariants as e
use Rattle.hb_world.specs.declared.entry.Way.{Way}
use Rattle.hb_world.specs.declared.entry.Way.TheVariants as way

pub data Course : Type 0 where
  unborn : Course
  -- it is dialled, and not open yet; it is open
  opening : Course
  serves : Course
  -- the gateway sends no more; a connection error of this code was told; it ended for this cause
  hung_up : Course
  faulted : (code : ℕ) → Course
  over : Cause → Course
  closed : Course

-- it ends, where nothing ended it before
abbrev pub ends : Cause → Course → Course
ends cause opening = over cause
ends cause serves = over cause
ends cause course = course

-- it is open; the gateway sends no more; a connection error is told
abbrev pub opens : Course → Course
opens opening = serves
opens course = course

abbrev pub hangs_up : Course → Course
hangs_up serves = hung_up
hangs_up course = course

abbrev pub faults : ℕ → Course → Course
faults code serves = faulted code
faults code course = course

-- behind a connection error one write is left, or one that fails
abbrev pub writes : Course → Course
writes (faulted code) = over (cause.ConnFault code)
writes course = course

abbrev pub course_told : Found → Course → Course
course_told (found.Fault code) course = faults code course
course_told told course = course

abbrev pub course_entry : Entry → Course → Course
course_entry (e.Opened g) course = opens course
course_entry (e.Ended g) course = hangs_up course
course_entry (e.Broke g) course = writes (ends cause.Broken course)
course_entry (e.Went g bytes) course = writes course
course_entry (e.Closed g cause) course = closed
course_entry call course = course

abbrev pub course_by : Course → Part → Course
course_by course (entry call) = course_entry call course
course_by course (dialled call key) = opening
course_by course lacked = ends cause.NoMemory course
course_by course (looked points told headers) = course_told told course
course_by course (stopped cause) = ends cause course
course_by course part = course

abbrev pub course_of : List Part → Course
course_of parts = fold course_by unborn parts

-- it is to be closed for this cause: the first one that ended it; where its gateway sends no more, as done where no stream is open
abbrev pub ClosesBy : List Part → Cause → Course → Type 0
ClosesBy before why (over first) = why ≡ first
ClosesBy before why (faulted code) = why ≡ cause.ConnFault code
ClosesBy before why hung_up = (history : IsOneHistory before) × (why ≡ end_cause history.conn)
ClosesBy before why course = ⊥

-- streams are used; it may be written, behind a connection error once; it may fail
abbrev pub Carries : Course → Type 0
Carries opening = ⊤
Carries serves = ⊤
Carries course = ⊥

abbrev pub IsWritable : Course → Type 0
IsWritable serves = ⊤
IsWritable (faulted code) = ⊤
IsWritable course = ⊥

abbrev pub MayFail : Course → Type 0
MayFail opening = ⊤
MayFail course = IsWritable course

-- which call that moves nothing stands on the link, and which entry does
abbrev pub IsTried : Course → Way → Type 0
IsTried course (way.Finish g) = course ≡ opening
IsTried course (way.Read g) = course ≡ serves
IsTried course (way.Write g) = IsWritable course
IsTried course how = ⊥

abbrev pub EntryStands : List Part → Course → Entry → Type 0
EntryStands before course (e.Opened g) = course ≡ opening
EntryStands before course (e.Came g bytes) = course ≡ serves
EntryStands before course (e.Ended g) = course ≡ serves
EntryStands before course (e.Went g bytes) = IsWritable course
EntryStands before course (e.Broke g) = MayFail course
EntryStands before course (e.Balked how) = IsTried course how
EntryStands before course (e.Closed g cause) = ClosesBy before cause course
EntryStands before course call = ⊥

-- behind its end nothing is looked at on it, asked for or put
abbrev pub ClosesAt : List Part → Part → Type 0
ClosesAt before (entry call) = EntryStands before (course_of before) call
ClosesAt before (dialled call key) = course_of before ≡ unborn
ClosesAt before lacked = course_of before ≡ serves
ClosesAt before (looked points told headers) = course_of before ≡ serves
ClosesAt before (asks s captured authority) = Carries (course_of before)
ClosesAt before (put s bytes count) = Carries (course_of before)
ClosesAt before (finished s) = Carries (course_of before)
ClosesAt before (credited s n) = Carries (course_of before)
ClosesAt before (reset s code) = Carries (course_of before)
ClosesAt before (done s begun) = Carries (course_of before)
ClosesAt before part = ⊤

abbrev pub CloseLaw : List Part → Type 0
CloseLaw parts = AtEach ClosesAt parts
