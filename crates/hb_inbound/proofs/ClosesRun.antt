-- How far a link is, by what happened to it, and when it is closed, in every run of it.
use Rattle.std.proofs.Common.{◌≡◌, ◌⊎◌, inl, inr, ℕ, List, [], length, Some, None, refl, ap, sym, ◌∙◌, subst}
use Rattle.hb_base.specs.declared.cause.Cause.{Cause}
use Rattle.hb_base.specs.declared.cause.Cause.TheVariants as cause
use Rattle.hb_conn.specs.Connection.{Connection, taken}
use Rattle.hb_conn.specs.Observed as connection
use Rattle.hb_conn.specs.declared.found.Found.{Found}
use Rattle.hb_conn.specs.declared.found.Found.TheVariants as found
use Rattle.hb_front.specs.Faults.{number_of}
use Rattle.hb_held.specs.Held.{Resources}
use Rattle.hb_hpack.specs.declared.header.HeaderList.{HeaderList}
use Rattle.hb_world.specs.declared.entry.Entry.{Entry}
use Rattle.hb_world.specs.declared.entry.Entry.TheVariants as e
use Rattle.hb_world.specs.declared.entry.Way.TheVariants as way
use Rattle.hb_inbound.specs.Calm.{close_due}
use Rattle.hb_inbound.specs.Closes.{Course, course_by, course_of, course_entry, course_told, ends, takes_in, opens, hangs_up, faults, writes, breaks, hang_up_cause, ClosesBy, GoesOn, IsWritable, MayLack, IsTried, EntryStands, ClosesAt}
use Rattle.hb_inbound.specs.Closes as course
use Rattle.hb_inbound.specs.Connections.{IsOneHistory}
use Rattle.hb_inbound.specs.Inbound.{Inbound, Phase, unborn, arriving, fronting, serving, faulted, closing, closed, came_by, went_by, ended_by, broken_by, on_found, stops_by}
use Rattle.hb_inbound.specs.Laws.{RunsClose}
use Rattle.hb_inbound.specs.Part.{Part, entry, up, welcomed, crowded, lacked, fronted, misfronted, looked, decided, accepted, refused, reset, left, done, put, finished, credited, applied, stopped}
use Rattle.hb_inbound.specs.Runs.{Local, MayCome, Lacks, entered, Steps, StandsFor, begins, goes_on}
use Rattle.hb_inbound.proofs.Grown.{fold_one, at_parts}
use Rattle.hb_inbound.proofs.Runs.{all_keep}

-- the words of the trace for a phase
abbrev pub CourseBy : Phase → Course → Connection → Type 0
CourseBy unborn how c = how ≡ course.unborn
CourseBy arriving how c = how ≡ course.arriving
CourseBy fronting how c = how ≡ course.fronting
CourseBy serving how c = how ≡ course.serves
CourseBy (faulted code) how c = how ≡ course.faulted code
CourseBy (closing why) how c = (how ≡ course.over why) ⊎ ((how ≡ course.hung_up) × (why ≡ hang_up_cause c))
CourseBy closed how c = how ≡ course.closed

abbrev pub IsCourse : Course → Inbound → Type 0
IsCourse how x = CourseBy x.phase how x.conn

lacks_course : (phase : Phase) (how : Course) (x : Inbound) → Lacks phase x → CourseBy phase how x.conn
    → CourseBy (closing cause.NoMemory) (ends cause.NoMemory how) x.conn
lacks_course arriving how x may is = inl (ap (ends cause.NoMemory) is)
lacks_course fronting how x may is = inl (ap (ends cause.NoMemory) is)
lacks_course serving how x may is = inl (ap (ends cause.NoMemory) is)
lacks_course unborn how x may is = absurd may
lacks_course (faulted code) how x may is = absurd may
lacks_course (closing why) how x may is = absurd may
lacks_course closed how x may is = absurd may

stops_course : (why : Cause) (phase : Phase) (how : Course) (c : Connection) → CourseBy phase how c
    → CourseBy (stops_by why phase) (ends why how) c
stops_course why unborn how c is = ap (ends why) is
stops_course why arriving how c is = inl (ap (ends why) is)
stops_course why fronting how c is = inl (ap (ends why) is)
stops_course why serving how c is = inl (ap (ends why) is)
stops_course why (faulted code) how c is = ap (ends why) is
stops_course why (closing first) how c (inl is) = inl (ap (ends why) is)
stops_course why (closing first) how c (inr (is, same)) = inr (ap (ends why) is, same)
stops_course why closed how c is = ap (ends why) is

module _ (l : ℕ) (a : Local) (how : Course) (now : IsCourse how a.link) where
  -- where the link is in this phase
  at : (phase : Phase) → a.link.phase ≡ phase → CourseBy phase how a.link.conn
  at phase is = subst (λ (ph : Phase). CourseBy ph how a.link.conn) is now

  -- while it serves its connection changes
  serves_on : (d : Connection) → a.link.phase ≡ serving → CourseBy a.link.phase how d
  serves_on d is = subst (λ (ph : Phase). CourseBy ph how d) (sym is) (at serving is)

  entry_course : (z : Entry) → MayCome l a.link z → IsCourse (course_entry z how) (entered z a.link)
  entry_course (e.Accepted k d) may = refl
  entry_course (e.Came k bytes) (is, (inl quiet, wanted), octets, some, most) =
      subst (λ (ph : Phase). IsCourse how (came_by ph bytes a.link)) (sym quiet.1) now
  entry_course (e.Came k bytes) (is, (inr quiet, wanted), octets, some, most) =
      subst (λ (ph : Phase). IsCourse how (came_by ph bytes a.link)) (sym quiet.1) (serves_on (taken a.link.conn bytes) quiet.1)
  entry_course (e.Ended k) (is, (inl quiet, wanted)) =
      subst (λ (ph : Phase). IsCourse (hangs_up how) (ended_by ph a.link)) (sym quiet.1) (inl (ap hangs_up (at fronting quiet.1)))
  entry_course (e.Ended k) (is, (inr quiet, wanted)) =
      subst (λ (ph : Phase). IsCourse (hangs_up how) (ended_by ph a.link)) (sym quiet.1) (inr (ap hangs_up (at serving quiet.1), refl))
  entry_course (e.Went k bytes) (is, inl quiet, some, rest) =
      subst (λ (ph : Phase). CourseBy (went_by ph) (writes how) (connection.wrote a.link.conn (length bytes))) (sym quiet.1)
      (ap writes (at serving quiet.1))
  entry_course (e.Went k bytes) (is, inr fault, some, rest) =
      subst (λ (ph : Phase). CourseBy (went_by ph) (writes how) (connection.wrote a.link.conn (length bytes))) (sym fault.2)
      (inl (ap writes (at (faulted fault.1) fault.2)))
  entry_course (e.Broke k) (is, inl quiet) =
      subst (λ (ph : Phase). IsCourse (breaks how) (broken_by ph a.link)) (sym quiet.1) (inl (ap breaks (at fronting quiet.1)))
  entry_course (e.Broke k) (is, inr (inl quiet)) =
      subst (λ (ph : Phase). IsCourse (breaks how) (broken_by ph a.link)) (sym quiet.1) (inl (ap breaks (at serving quiet.1)))
  entry_course (e.Broke k) (is, inr (inr fault)) =
      subst (λ (ph : Phase). IsCourse (breaks how) (broken_by ph a.link)) (sym fault.2) (inl (ap breaks (at (faulted fault.1) fault.2)))
  entry_course (e.Closed k why) may = refl
  entry_course (e.Balked w) may = now
  entry_course (e.Dialled k to why) may = absurd may
  entry_course (e.DialFailed to why) may = absurd may
  entry_course (e.Opened k) may = absurd may
  entry_course (e.Shut k) may = absurd may
  entry_course e.Tick may = absurd may
  entry_course (e.Wait ready answer) may = absurd may

  found_course : (headers : HeaderList) (d : Connection) → a.link.phase ≡ serving → (told : Found)
      → IsCourse (course_told told how) (on_found told headers d a.link)
  found_course headers d is found.Silent = serves_on d is
  found_course headers d is (found.Opened s end) = serves_on d is
  found_course headers d is (found.Chunk s end) = serves_on d is
  found_course headers d is (found.Ended s) = serves_on d is
  found_course headers d is (found.Reset s code) = serves_on d is
  found_course headers d is (found.Broken s code) = serves_on d is
  found_course headers d is (found.GoneAway last) = serves_on d is
  found_course headers d is (found.Fault code) = ap (faults code) (at serving is)

  turn : (p : Part) (b c : Local) → b ≡ c → IsCourse (course_by how p) c.link → IsCourse (course_by how p) b.link
  turn p b c is = subst (λ (x : Local). IsCourse (course_by how p) x.link) (sym is)

  step_course : (p : Part) (b : Local) → Steps l a p b → IsCourse (course_by how p) b.link
  step_course (entry z) b steps = turn (entry z) b _ steps.1 (entry_course z steps.0)
  step_course (up k z) b steps = turn (up k z) b _ steps.1 now
  step_course welcomed b steps = turn welcomed b _ steps.1 (ap takes_in (at arriving steps.0))
  step_course crowded b steps = turn crowded b _ steps.1 (inl (ap (ends cause.NoRoom) (at arriving steps.0)))
  step_course lacked b steps = turn lacked b _ steps.1 (lacks_course a.link.phase how a.link steps.0 now)
  step_course (fronted seen) b steps = turn (fronted seen) b _ steps.4 (ap opens (at fronting steps.0))
  step_course (misfronted fault) b steps =
      turn (misfronted fault) b _ steps.2 (inl (ap (ends (cause.FrontFault (number_of fault))) (at fronting steps.0)))
  step_course (looked ps told headers) b steps =
      turn (looked ps told headers) b _ steps.5 (found_course headers steps.2 steps.0 told)
  step_course (decided s full given) b steps = turn (decided s full given) b _ steps.5 now
  step_course (accepted s made) b steps = turn (accepted s made) b _ steps.3 (serves_on _ steps.0)
  step_course (refused s status resets made) b steps = turn (refused s status resets made) b _ steps.4 (serves_on _ steps.0)
  step_course (reset s code made) b steps = turn (reset s code made) b _ steps.3 (serves_on _ steps.0)
  step_course (left s made) b steps = turn (left s made) b _ steps.2 now
  step_course (done s made) b steps = turn (done s made) b _ steps.3 now
  step_course (put s bytes) b steps = turn (put s bytes) b _ steps.3 (serves_on _ steps.0.0)
  step_course (finished s) b steps = turn (finished s) b _ steps.2 (serves_on _ steps.0.0)
  step_course (credited s n) b steps = turn (credited s n) b _ steps.3 (serves_on _ steps.0.0)
  step_course (applied r) b steps = turn (applied r) b _ steps now
  step_course (stopped why) b steps = turn (stopped why) b _ steps (stops_course why a.link.phase how a.link.conn now)

-- in every run
pub all_course : (l : ℕ) (start : Resources) (a : Local) (parts : List Part) → StandsFor l start a parts → IsCourse (course_of parts) a.link
all_course l start a parts (begins is none) =
    subst (λ (ps : List Part). IsCourse (course_of ps) a.link) (sym none)
    (subst (λ (c : Local). IsCourse (course_of []) c.link) (sym is) refl)
all_course l start b more (goes_on {a = a} {parts = parts} before p steps is) =
    subst (λ (ps : List Part). IsCourse (course_of ps) b.link) (sym is)
    (subst (λ (how : Course). IsCourse how b.link) (sym (fold_one course_by course.unborn parts p))
    (step_course l a (course_of parts) (all_course l start a parts before) p b steps))

module _ (l : ℕ) (start : Resources) (a : Local) (before : List Part) (stands : StandsFor l start a before) where
  pub course_at : (phase : Phase) → a.link.phase ≡ phase → CourseBy phase (course_of before) a.link.conn
  course_at phase is = at l a (course_of before) (all_course l start a before stands) phase is

  abbrev pub history : IsOneHistory before
  history = record { conn = a.link.conn; stands = (all_keep l start a before stands).one.stands }

  closes_by : (phase : Phase) (how : Course) (why : Cause) → CourseBy phase how a.link.conn → close_due phase ≡ Some why
      → ClosesBy before why how
  closes_by (faulted code) how why is due =
      subst (ClosesBy before why) (sym is) (let same : Some (cause.ConnFault code) ≡ Some why = due in cc)
  closes_by (closing first) how why (inl is) due = subst (ClosesBy before why) (sym is) (let same : Some first ≡ Some why = due in cc)
  closes_by (closing first) how why (inr (is, hung)) due =
      let same : why ≡ first = (let both : Some first ≡ Some why = due in cc) in
      subst (ClosesBy before why) (sym is) (history, same ∙ hung)
  closes_by unborn how why is due = absurd (let none : None ≡ Some why = due in cc)
  closes_by arriving how why is due = absurd (let none : None ≡ Some why = due in cc)
  closes_by fronting how why is due = absurd (let none : None ≡ Some why = due in cc)
  closes_by serving how why is due = absurd (let none : None ≡ Some why = due in cc)
  closes_by closed how why is due = absurd (let none : None ≡ Some why = due in cc)

  entry_stands : (z : Entry) → MayCome l a.link z → EntryStands before (course_of before) z
  entry_stands (e.Accepted k d) may = course_at unborn may.1
  entry_stands (e.Came k bytes) (is, (inl quiet, wanted), octets, some, most) = subst GoesOn (sym (course_at fronting quiet.1)) tt
  entry_stands (e.Came k bytes) (is, (inr quiet, wanted), octets, some, most) = subst GoesOn (sym (course_at serving quiet.1)) tt
  entry_stands (e.Ended k) (is, (inl quiet, wanted)) = subst GoesOn (sym (course_at fronting quiet.1)) tt
  entry_stands (e.Ended k) (is, (inr quiet, wanted)) = subst GoesOn (sym (course_at serving quiet.1)) tt
  entry_stands (e.Went k bytes) (is, inl quiet, some, rest) = subst IsWritable (sym (course_at serving quiet.1)) tt
  entry_stands (e.Went k bytes) (is, inr fault, some, rest) = subst IsWritable (sym (course_at (faulted fault.1) fault.2)) tt
  entry_stands (e.Broke k) (is, inl quiet) = subst IsTried (sym (course_at fronting quiet.1)) tt
  entry_stands (e.Broke k) (is, inr (inl quiet)) = subst IsTried (sym (course_at serving quiet.1)) tt
  entry_stands (e.Broke k) (is, inr (inr fault)) = subst IsTried (sym (course_at (faulted fault.1) fault.2)) tt
  entry_stands (e.Balked (way.Read k)) (is, (inl quiet, wanted)) = subst IsTried (sym (course_at fronting quiet.1)) tt
  entry_stands (e.Balked (way.Read k)) (is, (inr quiet, wanted)) = subst IsTried (sym (course_at serving quiet.1)) tt
  entry_stands (e.Balked (way.Write k)) (is, inl quiet, some) = subst IsTried (sym (course_at serving quiet.1)) tt
  entry_stands (e.Balked (way.Write k)) (is, inr fault, some) = subst IsTried (sym (course_at (faulted fault.1) fault.2)) tt
  entry_stands (e.Balked (way.Listen d to listening)) may = absurd may
  entry_stands (e.Balked (way.Accept d)) may = absurd may
  entry_stands (e.Balked (way.Look k)) may = absurd may
  entry_stands (e.Balked (way.Finish k)) may = absurd may
  entry_stands (e.Closed k why) may =
      closes_by a.link.phase (course_of before) why (all_course l start a before stands) may.2
  entry_stands (e.Dialled k to why) may = absurd may
  entry_stands (e.DialFailed to why) may = absurd may
  entry_stands (e.Opened k) may = absurd may
  entry_stands (e.Shut k) may = absurd may
  entry_stands e.Tick may = absurd may
  entry_stands (e.Wait ready answer) may = absurd may

  lacks_at : (phase : Phase) → Lacks phase a.link → CourseBy phase (course_of before) a.link.conn → MayLack (course_of before)
  lacks_at arriving may is = subst MayLack (sym is) tt
  lacks_at fronting may is = subst MayLack (sym is) tt
  lacks_at serving may is = subst MayLack (sym is) tt
  lacks_at unborn may is = absurd may
  lacks_at (faulted code) may is = absurd may
  lacks_at (closing why) may is = absurd may
  lacks_at closed may is = absurd may

next : (l : ℕ) (start : Resources) (a b : Local) (before : List Part) (p : Part) → StandsFor l start a before → Steps l a p b
    → ClosesAt before p
next l start a b before (entry z) stands steps = entry_stands l start a before stands z steps.0
next l start a b before welcomed stands steps = course_at l start a before stands arriving steps.0
next l start a b before crowded stands steps = course_at l start a before stands arriving steps.0
next l start a b before lacked stands steps =
    lacks_at l start a before stands a.link.phase steps.0 (all_course l start a before stands)
next l start a b before (fronted seen) stands steps = course_at l start a before stands fronting steps.0
next l start a b before (misfronted fault) stands steps = course_at l start a before stands fronting steps.0
next l start a b before (looked ps told headers) stands steps = course_at l start a before stands serving steps.0
next l start a b before (decided s full given) stands steps = course_at l start a before stands serving steps.0
next l start a b before (accepted s made) stands steps = course_at l start a before stands serving steps.0
next l start a b before (refused s status resets made) stands steps = course_at l start a before stands serving steps.0
next l start a b before (reset s code made) stands steps = course_at l start a before stands serving steps.0
next l start a b before (done s made) stands steps = course_at l start a before stands serving steps.0.0
next l start a b before (put s bytes) stands steps = course_at l start a before stands serving steps.0.0
next l start a b before (finished s) stands steps = course_at l start a before stands serving steps.0.0
next l start a b before (credited s n) stands steps = course_at l start a before stands serving steps.0.0
next l start a b before (up s z) stands steps = tt
next l start a b before (left s made) stands steps = tt
next l start a b before (applied r) stands steps = tt
next l start a b before (stopped why) stands steps = tt

pub closes : RunsClose
closes l start a parts stands = at_parts l start ClosesAt (next l start) a parts stands
