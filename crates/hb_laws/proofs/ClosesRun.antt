-- How far a link to a gateway is, by what happened to it, and when it is closed, in every run.
use Rattle.std.proofs.Common.{◌≡◌, ◌⊎◌, inl, inr, ℕ, ◌-◌, true, false, List, [], ◌∷◌, length, Some, None, refl, ap, sym, ◌∙◌, subst}
use Rattle.std.proofs.lemmas.Bool.{false≢true, and_parts}
use Rattle.std.proofs.lemmas.List.Sums.{fold-append}
use Rattle.hb_base.specs.declared.cause.Cause.{Cause}
use Rattle.hb_base.specs.declared.cause.Cause.TheVariants as cause
use Rattle.hb_conn.specs.Connection.{Connection, taken}
use Rattle.hb_conn.specs.Observed as connection
use Rattle.hb_conn.specs.Observed.{data_put, end_put, aborted}
use Rattle.hb_conn.specs.declared.found.Found.{Found}
use Rattle.hb_conn.specs.declared.found.Found.TheVariants as found
use Rattle.hb_gateway.proofs.Grown.{at_parts}
use Rattle.hb_gateway.proofs.Runs.{birth_unborn, all_keep}
use Rattle.hb_gateway.specs.Calm.{close_due}
use Rattle.hb_gateway.specs.Connections.{IsOneHistory}
use Rattle.hb_gateway.specs.Gateway.{Gateway, Phase, unborn, opening, serving, faulted, closing, closed, carries, has_room, request_of, went_by, phase_by, end_cause, broken_by, stops_by}
use Rattle.hb_gateway.specs.Hears.{all_hear}
use Rattle.hb_gateway.specs.Part.{Part, entry, dialled, lacked, looked, asks, tells, put, finished, credited, reset, dropped, done, stopped}
use Rattle.hb_gateway.specs.Runs as gateway
use Rattle.hb_gateway.specs.Runs.{IsQuietAt, MayCome, IsWritable, Lacks, entered, begins, goes_on}
use Rattle.hb_model.specs.declared.config.NodeConfig.{NodeConfig}
use Rattle.hb_proxy.proofs.Gates.{gates_run}
use Rattle.hb_proxy.specs.Machine.{Machine}
use Rattle.hb_proxy.specs.Points.{Point, gates_of}
use Rattle.hb_proxy.specs.Runs.{StandsFor}
use Rattle.hb_world.specs.declared.entry.Entry.{Entry}
use Rattle.hb_world.specs.declared.entry.Entry.TheVariants as e
use Rattle.hb_world.specs.declared.entry.Way.TheVariants as way
use Rattle.hb_laws.specs.Closes as course
use Rattle.hb_laws.specs.Closes.{Course, ends, opens, hangs_up, faults, writes, course_told, course_entry, course_by, course_of, ClosesBy, EntryStands, ClosesAt, CloseLaw}

-- the words of the trace for a phase
abbrev CourseBy : Phase → Course → Connection → Type 0
CourseBy unborn how c = how ≡ course.unborn
CourseBy opening how c = how ≡ course.opening
CourseBy serving how c = how ≡ course.serves
CourseBy (faulted code) how c = how ≡ course.faulted code
CourseBy (closing why) how c = (how ≡ course.over why) ⊎ ((how ≡ course.hung_up) × (why ≡ end_cause c))
CourseBy closed how c = how ≡ course.closed

abbrev IsCourse : Course → Gateway → Type 0
IsCourse how x = CourseBy x.phase how x.conn

-- a phase in which streams are used tells nothing of the connection
carries_on : (phase : Phase) (how : Course) (c d : Connection) → carries phase ≡ true → CourseBy phase how c → CourseBy phase how d
carries_on opening how c d may is = is
carries_on serving how c d may is = is
carries_on _ how c d may is = absurd (false≢true may)

stops_course : (why : Cause) (phase : Phase) (how : Course) (c : Connection) → CourseBy phase how c
    → CourseBy (stops_by why phase) (ends why how) c
stops_course why unborn how c is = ap (ends why) is
stops_course why opening how c is = inl (ap (ends why) is)
stops_course why serving how c is = inl (ap (ends why) is)
stops_course why (faulted code) how c is = ap (ends why) is
stops_course why (closing first) how c (inl is) = inl (ap (ends why) is)
stops_course why (closing first) how c (inr (is, same)) = inr (ap (ends why) is, same)
stops_course why closed how c is = ap (ends why) is

-- memory may lack where it serves
lacks_serving : (phase : Phase) (x : Gateway) → Lacks phase x → phase ≡ serving
lacks_serving serving x may = refl
lacks_serving _ x may = absurd may

module _ (g : ℕ) (x y : Gateway) (how : Course) (now : IsCourse how x) where
  -- where the link is in this phase
  at : (phase : Phase) → x.phase ≡ phase → CourseBy phase how x.conn
  at phase is = subst (λ (ph : Phase). CourseBy ph how x.conn) is now

  -- while it carries streams its connection changes
  on : (c : Connection) → carries x.phase ≡ true → CourseBy x.phase how c
  on c may = carries_on x.phase how x.conn c may now

  serves_on : (c : Connection) → x.phase ≡ serving → CourseBy x.phase how c
  serves_on c is = on c (ap carries is)

  went_course : (c : Connection) → IsWritable x → CourseBy (went_by x.phase) (writes how) c
  went_course c (inl quiet) =
      subst (λ (ph : Phase). CourseBy (went_by ph) (writes how) c) (sym quiet.1) (ap writes (at serving quiet.1))
  went_course c (inr fault) =
      subst (λ (ph : Phase). CourseBy (went_by ph) (writes how) c) (sym fault.2) (inl (ap writes (at (faulted fault.1) fault.2)))

  abbrev breaks : Course → Course
  breaks c = writes (ends cause.Broken c)

  broken_at : (phase : Phase) → x.phase ≡ phase → CourseBy (broken_by phase) (breaks how) x.conn
      → CourseBy (broken_by x.phase) (breaks how) x.conn
  broken_at phase is = subst (λ (ph : Phase). CourseBy (broken_by ph) (breaks how) x.conn) (sym is)

  broken_course : IsQuietAt opening x ⊎ IsWritable x → CourseBy (broken_by x.phase) (breaks how) x.conn
  broken_course (inl quiet) = broken_at opening quiet.1 (inl (ap breaks (at opening quiet.1)))
  broken_course (inr (inl quiet)) = broken_at serving quiet.1 (inl (ap breaks (at serving quiet.1)))
  broken_course (inr (inr fault)) = broken_at (faulted fault.1) fault.2 (inl (ap breaks (at (faulted fault.1) fault.2)))

  found_course : (c : Connection) → x.phase ≡ serving → (told : Found) → CourseBy (phase_by x.phase told) (course_told told how) c
  found_course c is (found.Fault code) = ap (faults code) (at serving is)
  found_course c is found.Silent = serves_on c is
  found_course c is (found.Opened s end) = serves_on c is
  found_course c is (found.Chunk s end) = serves_on c is
  found_course c is (found.Ended s) = serves_on c is
  found_course c is (found.Reset s code) = serves_on c is
  found_course c is (found.Broken s code) = serves_on c is
  found_course c is (found.GoneAway last) = serves_on c is

  -- what it becomes
  turn : (then : Course) (z : Gateway) → y ≡ z → IsCourse then z → IsCourse then y
  turn then z is = subst (IsCourse then) (sym is)

  call_course : (call : Entry) → MayCome g x call → y ≡ entered call (all_hear (entry call) x) → IsCourse (course_entry call how) y
  call_course (e.Opened k) may is = turn (opens how) _ is (ap opens (at opening may.1.1))
  call_course (e.Came k bytes) may is = turn how _ is (serves_on (taken x.conn bytes) may.1.0.1)
  call_course (e.Ended k) may is = turn (hangs_up how) _ is (inr (ap hangs_up (at serving may.1.0.1), refl))
  call_course (e.Went k bytes) may is =
      turn (writes how) _ is (went_course (connection.wrote x.conn (length bytes - length x.front)) may.1)
  call_course (e.Broke k) may is = turn (breaks how) _ is (broken_course may.1)
  call_course (e.Closed k why) may is = turn course.closed _ is refl
  call_course (e.Balked tried) may is = turn how _ is now
  call_course (e.Accepted k door) may is = absurd may
  call_course (e.Dialled k to why) may is = absurd may
  call_course (e.DialFailed to why) may is = absurd may
  call_course (e.Shut k) may is = absurd may
  call_course e.Tick may is = absurd may
  call_course (e.Wait ready answer) may is = absurd may

  step_course : (p : Part) → gateway.Steps g x p y → IsCourse (course_by how p) y
  step_course (entry call) steps = call_course call steps.0 steps.1
  step_course (dialled call key) steps = turn course.opening _ steps.1 refl
  step_course lacked steps =
      turn (ends cause.NoMemory how) _ steps.1 (inl (ap (ends cause.NoMemory) (at serving (lacks_serving x.phase x steps.0))))
  step_course (looked points told headers) steps = turn (course_told told how) _ steps.6 (found_course steps.3 steps.0 told)
  step_course (asks s captured authority) steps =
      turn how _ steps.2
      (on (connection.opened x.conn s (request_of authority) false) (and_parts (carries x.phase) (has_room x) steps.0).0)
  step_course (tells s heard begun) steps = turn how _ steps.2 now
  step_course (put s bytes count) steps = turn how _ steps.4 (on (data_put x.conn s bytes) steps.0.0)
  step_course (finished s) steps = turn how _ steps.3 (on (end_put x.conn s) steps.0.0)
  step_course (credited s n) steps = turn how _ steps.2 (on (connection.credited x.conn s n) steps.0.0)
  step_course (reset s code) steps = turn how _ steps.2 (on (aborted x.conn s code) steps.0)
  step_course (dropped s begun) steps = turn how _ steps.3 now
  step_course (done s begun) steps = turn how _ steps.3 now
  step_course (stopped why) steps = turn (ends why how) _ steps.1 (stops_course why x.phase how x.conn now)

-- in every run
all_course : (g : ℕ) (x : Gateway) (parts : List Part) → gateway.StandsFor g x parts → IsCourse (course_of parts) x
all_course g x parts (begins is none) =
    subst (λ (ps : List Part). IsCourse (course_of ps) x) (sym none) (subst (IsCourse course.unborn) (sym is) refl)
all_course g y more (goes_on {x = x} {parts = parts} before p steps grown) =
    subst (λ (ps : List Part). IsCourse (course_of ps) y) (sym grown)
    (subst (λ (how : Course). IsCourse how y) (sym (fold-append course_by course.unborn parts (p ∷ [])))
    (step_course g x y (course_of parts) (all_course g x parts before) p steps))

module _ (g : ℕ) (x : Gateway) (before : List Part) (stands : gateway.StandsFor g x before) where
  course_at : (phase : Phase) → x.phase ≡ phase → CourseBy phase (course_of before) x.conn
  course_at phase is = subst (λ (ph : Phase). CourseBy ph (course_of before) x.conn) is (all_course g x before stands)

  abbrev history : IsOneHistory before
  history = let keeps = all_keep g x before stands in
      record { conn = x.conn; stands = keeps.stands; unwritten = x.front; front = keeps.front }

  closes_by : (phase : Phase) (how : Course) (why : Cause) → CourseBy phase how x.conn → close_due phase ≡ Some why
      → ClosesBy before why how
  closes_by (faulted code) how why is due =
      subst (ClosesBy before why) (sym is) (let same : Some (cause.ConnFault code) ≡ Some why = due in cc)
  closes_by (closing first) how why (inl is) due = subst (ClosesBy before why) (sym is) (let same : Some first ≡ Some why = due in cc)
  closes_by (closing first) how why (inr (is, hung)) due =
      let same : why ≡ first = (let both : Some first ≡ Some why = due in cc) in
      subst (ClosesBy before why) (sym is) (history, same ∙ hung)
  closes_by unborn how why is due = absurd (let none : None ≡ Some why = due in cc)
  closes_by opening how why is due = absurd (let none : None ≡ Some why = due in cc)
  closes_by serving how why is due = absurd (let none : None ≡ Some why = due in cc)
  closes_by closed how why is due = absurd (let none : None ≡ Some why = due in cc)

  -- it may be written, it may fail, and streams are used, where the machine says so
  writable : IsWritable x → course.IsWritable (course_of before)
  writable (inl quiet) = subst course.IsWritable (sym (course_at serving quiet.1)) tt
  writable (inr fault) = subst course.IsWritable (sym (course_at (faulted fault.1) fault.2)) tt

  fails : IsQuietAt opening x ⊎ IsWritable x → course.MayFail (course_of before)
  fails (inl quiet) = subst course.MayFail (sym (course_at opening quiet.1)) tt
  fails (inr (inl quiet)) = subst course.MayFail (sym (course_at serving quiet.1)) tt
  fails (inr (inr fault)) = subst course.MayFail (sym (course_at (faulted fault.1) fault.2)) tt

  carries_by : (phase : Phase) → carries phase ≡ true → CourseBy phase (course_of before) x.conn → course.Carries (course_of before)
  carries_by opening may is = subst course.Carries (sym is) tt
  carries_by serving may is = subst course.Carries (sym is) tt
  carries_by _ may is = absurd (false≢true may)

  used : carries x.phase ≡ true → course.Carries (course_of before)
  used may = carries_by x.phase may (all_course g x before stands)

  entry_stands : (call : Entry) → MayCome g x call → EntryStands before (course_of before) call
  entry_stands (e.Opened k) may = course_at opening may.1.1
  entry_stands (e.Came k bytes) may = course_at serving may.1.0.1
  entry_stands (e.Ended k) may = course_at serving may.1.0.1
  entry_stands (e.Went k bytes) may = writable may.1
  entry_stands (e.Broke k) may = fails may.1
  entry_stands (e.Closed k why) may = closes_by x.phase (course_of before) why (all_course g x before stands) may.2
  entry_stands (e.Balked (way.Finish k)) may = course_at opening may.1.1
  entry_stands (e.Balked (way.Read k)) may = course_at serving may.1.0.1
  entry_stands (e.Balked (way.Write k)) may = writable may.1
  entry_stands (e.Balked (way.Listen d to listening)) may = absurd may
  entry_stands (e.Balked (way.Accept d)) may = absurd may
  entry_stands (e.Balked (way.Look k)) may = absurd may
  entry_stands (e.Accepted k door) may = absurd may
  entry_stands (e.Dialled k to why) may = absurd may
  entry_stands (e.DialFailed to why) may = absurd may
  entry_stands (e.Shut k) may = absurd may
  entry_stands e.Tick may = absurd may
  entry_stands (e.Wait ready answer) may = absurd may

closes_next : (g : ℕ) (x y : Gateway) (before : List Part) (p : Part) → gateway.StandsFor g x before → gateway.Steps g x p y
    → ClosesAt before p
closes_next g x y before (entry call) stands steps = entry_stands g x before stands call steps.0
closes_next g x y before (dialled call key) stands steps = course_at g x before stands unborn (birth_unborn g x call key steps.0)
closes_next g x y before lacked stands steps = course_at g x before stands serving (lacks_serving x.phase x steps.0)
closes_next g x y before (looked points told headers) stands steps = course_at g x before stands serving steps.0
closes_next g x y before (asks s captured authority) stands steps =
    used g x before stands (and_parts (carries x.phase) (has_room x) steps.0).0
closes_next g x y before (put s bytes count) stands steps = used g x before stands steps.0.0
closes_next g x y before (finished s) stands steps = used g x before stands steps.0.0
closes_next g x y before (credited s n) stands steps = used g x before stands steps.0.0
closes_next g x y before (reset s code) stands steps = used g x before stands steps.0
closes_next g x y before (done s begun) stands steps = used g x before stands steps.0.0.0
closes_next g x y before (tells s heard begun) stands steps = tt
closes_next g x y before (dropped s begun) stands steps = tt
closes_next g x y before (stopped why) stands steps = tt

pub runs_close : (g : NodeConfig) (x : Machine) (points : List Point) (n : ℕ) → StandsFor g x points → CloseLaw (gates_of n points)
runs_close g x points n stands = at_parts n ClosesAt (closes_next n) (x.gates n) (gates_of n points) (gates_run g x points n stands)
