-- A stream is reset only while a side of it is open, and never one that a GOAWAY left out, in every run of a link.
use Rattle.std.proofs.Common.{◌≡◌, ⊎_elim, ℕ, ◌-◌, ◌==◌, ◌&&◌, ◌||◌, not, nat_lt, nat_le, Bool, true, false, cond, List, [], ◌∷◌, length, Option, Some, None, is_ok, refl, ap, sym, ◌∙◌, subst}
use Rattle.std.specs.List.{flat_map, list_any}
use Rattle.std.proofs.lemmas.Bool.{false≢true, cond_both, and_parts, or_cases, or_left, or_right, not-true, false_from_ne_true, eqb-true, eqb-false}
use Rattle.hb_base.specs.declared.cause.Cause.{Cause}
use Rattle.hb_base.specs.declared.cause.Cause.TheVariants as cause
use Rattle.hb_conn.specs.Connection.{Connection}
use Rattle.hb_conn.specs.Observed as observed
use Rattle.hb_conn.specs.Observed.{next_stream, sides, streams}
use Rattle.hb_conn.specs.declared.found.Found.{Found}
use Rattle.hb_conn.specs.declared.found.Found.TheVariants as found
use Rattle.hb_history.specs.Points as history
use Rattle.hb_history.specs.Points.{data_in}
use Rattle.hb_hpack.specs.declared.header.Header.{Header}
use Rattle.hb_kept.proofs.Sides.{write_leaves_all, put_leaves_all, use_leaves_all, end_ends_side, reset_ends_both}
use Rattle.hb_kept.proofs.SidesAt.{at_same}
use Rattle.hb_model.specs.Discovery.{status_of}
use Rattle.hb_streams.specs.declared.sides.Sides.{Sides}
use Rattle.hb_world.specs.declared.entry.Entry.{Entry}
use Rattle.hb_world.specs.declared.entry.Entry.TheVariants as e
use Rattle.hb_gateway.specs.Asks.{is_away, says_away}
use Rattle.hb_gateway.specs.Calm.{is_failing}
use Rattle.hb_gateway.specs.Gateway.{Gateway, Phase, Stream, unborn, opening, serving, faulted, closing, closed, no_stream, stage_of, at_stage, at_stream, carries, has_room, is_active, settled, request_of, went_by, broken_by, stops_by, dropped_to}
use Rattle.hb_gateway.specs.Hears.{hears, left_behind, after, all_hear}
use Rattle.hb_gateway.specs.Laws.{RunsReset, LooksFailOne}
use Rattle.hb_gateway.specs.Part.{Part, entry, dialled, lacked, looked, asks, tells, put, finished, credited, reset, dropped, done, stopped}
use Rattle.hb_gateway.specs.Resets.{is_left_out, leaves_out, ResetsAt}
use Rattle.hb_gateway.specs.Response.{Stage, unused, asked, carrying, failing, over, cancel, is_living, Heard, opens, brings, ends, fails, headed, brought, ended, failed, heard_of}
use Rattle.hb_gateway.specs.Runs.{MayCome, entered, Steps, StandsFor, begins, goes_on}
use Rattle.hb_gateway.proofs.Asking.{call_streams, any_one, all_know}
use Rattle.hb_gateway.proofs.Grown.{at_parts}
use Rattle.hb_gateway.proofs.Hearing.{IsOf, failed_of, told_of, called_of}
use Rattle.hb_gateway.proofs.Runs.{birth_unborn, all_keep}
use Rattle.hb_gateway.proofs.Sending.{active_elsewhere}

-- WHAT IS TO BE RESET BEHIND A PART

-- where a failure leaves each stream over, no more streams are to be reset than before
failing_behind : (p : Part) (stage : Stage) (heard : Option Heard) → ((why : Cause) → left_behind p why ≡ over)
    → is_failing (after p stage heard) ≡ true → is_failing stage ≡ true
failing_behind p stage None leaves now = now
failing_behind p stage (Some (opens end)) leaves now = absurd (false≢true now)
failing_behind p stage (Some (brings bytes)) leaves now = now
failing_behind p stage (Some ends) leaves now = now
failing_behind p stage (Some (fails why)) leaves now = absurd (false≢true (sym (ap is_failing (leaves why)) ∙ now))

-- one that is still to be reset was before it was seen whether a side of it is open, and one is
settled_failed : (active : Bool) (stage : Stage) → is_failing (settled active stage) ≡ true → is_failing stage ≡ true
settled_failed true stage now = now
settled_failed false unused now = now
settled_failed false asked now = now
settled_failed false carrying now = now
settled_failed false (failing code) now = refl
settled_failed false over now = now

settled_open : (active : Bool) (stage : Stage) → is_failing (settled active stage) ≡ true → active ≡ true
settled_open true stage now = refl
settled_open false unused now = now
settled_open false asked now = now
settled_open false carrying now = now
settled_open false (failing code) now = now
settled_open false over now = now

-- WHETHER AN END CAME

-- none came yet
abbrev pub lasts : Phase → Bool
lasts unborn = true
lasts phase = carries phase

carried_lasts : (phase : Phase) → carries phase ≡ true → lasts phase ≡ true
carried_lasts unborn is = refl
carried_lasts opening is = is
carried_lasts serving is = is
carried_lasts (faulted code) is = is
carried_lasts (closing why) is = is
carried_lasts closed is = is

went_lasts : (phase : Phase) → lasts (went_by phase) ≡ true → lasts phase ≡ true
went_lasts unborn is = is
went_lasts opening is = is
went_lasts serving is = is
went_lasts (faulted code) is = is
went_lasts (closing why) is = is
went_lasts closed is = is

broken_lasts : (phase : Phase) → lasts (broken_by phase) ≡ true → lasts phase ≡ true
broken_lasts unborn is = is
broken_lasts opening is = refl
broken_lasts serving is = refl
broken_lasts (faulted code) is = is
broken_lasts (closing why) is = is
broken_lasts closed is = is

stop_lasts : (why : Cause) (phase : Phase) → lasts (stops_by why phase) ≡ true → lasts phase ≡ true
stop_lasts why unborn is = is
stop_lasts why opening is = refl
stop_lasts why serving is = refl
stop_lasts why (faulted code) is = is
stop_lasts why (closing cause) is = is
stop_lasts why closed is = is

-- THE INVARIANT: of a stream that is to be reset a side is open, while no end came
abbrev pub AreOpen : Gateway → Type 0
AreOpen x = (s : ℕ) → is_failing (stage_of x s) ≡ true → lasts x.phase ≡ true → is_active x.conn s ≡ true

active_same : (c d : Connection) (s : ℕ) → sides d s ≡ sides c s → is_active c s ≡ true → is_active d s ≡ true
active_same c d s same is = ap (λ (t : Sides). t.own || t.peer) same ∙ is

dropped_open : (s : ℕ) (x : Gateway) → is_failing (dropped_to s x) ≡ true → is_active x.conn s ≡ true
dropped_open s x =
    cond_both (carries x.phase && is_active x.conn s) (failing cancel) over
    (λ (t : Stage). is_failing t ≡ true → is_active x.conn s ≡ true)
    (λ is now. (and_parts (carries x.phase) (is_active x.conn s) is).1) (λ is now. absurd (false≢true now))

call_sides : (call : Entry) (x : Gateway) (s : ℕ) → sides (entered call x).conn s ≡ sides x.conn s
call_sides (e.Accepted k door) x s = refl
call_sides (e.Dialled k to why) x s = refl
call_sides (e.DialFailed to why) x s = refl
call_sides (e.Opened k) x s = refl
call_sides (e.Came k bytes) x s = refl
call_sides (e.Ended k) x s = refl
call_sides (e.Broke k) x s = refl
call_sides (e.Went k bytes) x s = write_leaves_all x.conn (length bytes - length x.front) s
call_sides (e.Balked how) x s = refl
call_sides (e.Shut k) x s = refl
call_sides (e.Closed k why) x s = refl
call_sides e.Tick x s = refl
call_sides (e.Wait ready how) x s = refl

module _ (g : ℕ) (x y : Gateway) (so_far : AreOpen x) where
  -- behind a step that makes this of the link
  becomes : (z : Gateway) → y ≡ z → AreOpen z → AreOpen y
  becomes z is now = subst AreOpen (sym is) now

  -- and with which no stream is to be reset anew, or changes its sides
  leaves : (z : Gateway) → y ≡ z → ((s : ℕ) → is_failing (stage_of z s) ≡ true → is_failing (stage_of x s) ≡ true)
      → (lasts z.phase ≡ true → lasts x.phase ≡ true)
      → ((s : ℕ) → is_failing (stage_of x s) ≡ true → sides z.conn s ≡ sides x.conn s) → AreOpen y
  leaves z is failed_before lasted same =
      becomes z is
      (λ s now lasting. active_same x.conn z.conn s (same s (failed_before s now)) (so_far s (failed_before s now) (lasted lasting)))

  -- the stream k is at this stage, and the connection is this one
  moves_to : (k : ℕ) (change : Stream → Stream) (c : Connection)
      → (is_failing (change (x.streams k)).stage ≡ true → is_active c k ≡ true)
      → ((s : ℕ) → (s ≡ k → ⊥) → sides c s ≡ sides x.conn s) → y ≡ record (at_stream k change x) { conn = c } → AreOpen y
  moves_to k change c here others is =
      becomes (record (at_stream k change x) { conn = c }) is
      (λ s. cond_both (s == k) (change (x.streams s)) (x.streams s)
      (λ (t : Stream). is_failing t.stage ≡ true → lasts x.phase ≡ true → is_active c s ≡ true)
      (λ same now lasting. let at : s ≡ k = eqb-true s k same in
      subst (λ (n : ℕ). is_active c n ≡ true) (sym at)
      (here (subst (λ (n : ℕ). is_failing (change (x.streams n)).stage ≡ true) at now)))
      (λ apart now lasting. active_same x.conn c s (others s (eqb-false s k apart)) (so_far s now lasting)))

  call_lasts : (call : Entry) → MayCome g x call → lasts (entered call (all_hear (entry call) x)).phase ≡ true → lasts x.phase ≡ true
  call_lasts (e.Opened k) may is = ap lasts may.1.1
  call_lasts (e.Came k bytes) may is = is
  call_lasts (e.Ended k) may is = absurd (false≢true is)
  call_lasts (e.Went k bytes) may is = went_lasts x.phase is
  call_lasts (e.Broke k) may is = broken_lasts x.phase is
  call_lasts (e.Closed k why) may is = absurd (false≢true is)
  call_lasts (e.Balked how) may is = is
  call_lasts (e.Accepted k door) may is = absurd may
  call_lasts (e.Dialled k to why) may is = absurd may
  call_lasts (e.DialFailed to why) may is = absurd may
  call_lasts (e.Shut k) may is = absurd may
  call_lasts e.Tick may is = absurd may
  call_lasts (e.Wait ready how) may is = absurd may

  step_open : (p : Part) → Steps g x p y → AreOpen y
  step_open (entry call) steps =
      leaves (entered call (all_hear (entry call) x)) steps.1
      (λ s now. failing_behind (entry call) (stage_of x s) (hears x (entry call) s) (λ why. refl)
      (sym (ap is_failing (call_streams call (all_hear (entry call) x) s)) ∙ now))
      (call_lasts call steps.0) (λ s now. call_sides call (all_hear (entry call) x) s)
  step_open (dialled call key) steps =
      leaves _ steps.1 (λ s now. now) (λ is. ap lasts (birth_unborn g x call key steps.0)) (λ s now. refl)
  step_open lacked steps = becomes _ steps.1 (λ s now lasting. absurd (false≢true lasting))
  step_open (looked ps told headers) steps =
      becomes _ steps.6
      (λ s now lasting. settled_open (is_active steps.3 s) (stage_of (all_hear (looked ps told headers) x) s) now)
  step_open (asks k captured authority) steps =
      moves_to k (λ t. record no_stream { stage = asked; captured = captured })
      (observed.opened x.conn k (request_of authority) false) (λ now. absurd (false≢true now))
      (λ s apart. at_same (streams x.conn) (streams (observed.opened x.conn k (request_of authority) false)) s
      (active_elsewhere x.conn k (request_of authority) steps.1 s apart)) steps.2
  step_open (tells k heard begun) steps =
      leaves _ steps.2
      (λ s. cond_both (s == k) (record (x.streams s) { mail = None }) (x.streams s)
      (λ (t : Stream). is_failing t.stage ≡ true → is_failing (stage_of x s) ≡ true) (λ is now. now) (λ is now. now))
      (λ is. is) (λ s now. refl)
  step_open (put k bytes count) steps =
      leaves _ steps.4 (λ s now. now) (λ is. is) (λ s now. put_leaves_all x.conn k bytes s)
  step_open (finished k) steps =
      leaves _ steps.3 (λ s now. now) (λ is. is)
      (λ s now. (end_ends_side x.conn k).others s
      (λ same. false≢true (sym (ap (λ (n : ℕ). is_failing (stage_of x n)) same ∙ ap is_failing steps.0.1) ∙ now)))
  step_open (credited k n) steps =
      leaves _ steps.2 (λ s now. now) (λ is. is) (λ s now. use_leaves_all x.conn k n s)
  step_open (reset k code) steps =
      moves_to k (at_stage over) (observed.aborted x.conn k code) (λ now. absurd (false≢true now))
      (λ s apart. (reset_ends_both x.conn k code).others s apart) steps.2
  step_open (dropped k begun) steps =
      moves_to k (at_stage (dropped_to k x)) x.conn (dropped_open k x) (λ s apart. refl) steps.3
  step_open (done k begun) steps =
      moves_to k (at_stage over) x.conn (λ now. absurd (false≢true now)) (λ s apart. refl) steps.3
  step_open (stopped why) steps =
      leaves _ steps.1
      (λ s now. failing_behind (stopped why) (stage_of x s) (hears x (stopped why) s) (λ cause. refl) now)
      (stop_lasts why x.phase) (λ s now. refl)

pub all_open : (g : ℕ) (x : Gateway) (parts : List Part) → StandsFor g x parts → AreOpen x
all_open g x parts (begins is none) = subst AreOpen (sym is) (λ s now lasting. absurd (false≢true now))
all_open g y more (goes_on {x = x} {parts = parts} before p steps grows) = step_open g x y (all_open g x parts before) p steps

-- so a stream that may be reset is open
pub reset_active : (g s code : ℕ) (x y : Gateway) (parts : List Part) → StandsFor g x parts → Steps g x (reset s code) y
    → is_active x.conn s ≡ true
reset_active g s code x y parts stands steps =
    all_open g x parts stands s (ap is_failing steps.1) (carried_lasts x.phase steps.0)

-- STREAMS THAT A GOAWAY LEFT OUT

-- no tunnel lives on a stream, and it isn't to be reset
abbrev pub is_gone : Stage → Bool
is_gone unused = true
is_gone over = true
is_gone stage = false

gone_ended : (stage : Stage) → is_gone stage ≡ true → is_living stage ≡ false
gone_ended unused gone = refl
gone_ended asked gone = sym gone
gone_ended carrying gone = sym gone
gone_ended (failing code) gone = refl
gone_ended over gone = refl

-- nothing is heard on it
gone_hears : (p : Part) (stage : Stage) (heard : Option Heard) → IsOf stage heard → is_gone stage ≡ true
    → is_gone (after p stage heard) ≡ true
gone_hears p stage None may gone = gone
gone_hears p unused (Some heard) may gone = absurd may
gone_hears p over (Some heard) may gone = absurd may
gone_hears p asked (Some heard) may gone = absurd (false≢true gone)
gone_hears p carrying (Some heard) may gone = absurd (false≢true gone)
gone_hears p (failing code) (Some heard) may gone = absurd (false≢true gone)

settled_gone : (active : Bool) (stage : Stage) → is_gone stage ≡ true → is_gone (settled active stage) ≡ true
settled_gone true stage gone = gone
settled_gone false unused gone = gone
settled_gone false asked gone = gone
settled_gone false carrying gone = gone
settled_gone false (failing code) gone = refl
settled_gone false over gone = gone

-- a GOAWAY leaves out each stream above its last
left_gone : (ps : List history.Point) (headers : List Header) (last : ℕ) (above : Bool) (stage : Stage) → is_failing stage ≡ false
    → above ≡ true
    → is_gone (after (looked ps (found.GoneAway last) headers) stage (cond above (failed cause.GoneAway stage) None)) ≡ true
left_gone ps headers last true unused calm is = refl
left_gone ps headers last true asked calm is = refl
left_gone ps headers last true carrying calm is = refl
left_gone ps headers last true (failing code) calm is = absurd (false≢true (sym calm))
left_gone ps headers last true over calm is = refl
left_gone ps headers last false stage calm is = absurd (false≢true is)

-- which stream may be one that is to be reset behind a look: the one that is told of
abbrev named : Found → Option ℕ
named (found.Opened k end) = Some k
named (found.Chunk k end) = Some k
named (found.Ended k) = Some k
named told = None

module _ (s : ℕ) (ps : List history.Point) (headers : List Header) (stage : Stage) (calm : is_failing stage ≡ false) where
  abbrev behind : Found → Stage
  behind told = after (looked ps told headers) stage (heard_of s stage headers (flat_map data_in ps) told)

  told_gone : (told : Found) → is_left_out s told ≡ true → is_gone (behind told) ≡ true
  told_gone (found.GoneAway last) left = left_gone ps headers last (nat_lt last s) stage calm left
  told_gone found.Silent left = absurd (false≢true left)
  told_gone (found.Opened k end) left = absurd (false≢true left)
  told_gone (found.Chunk k end) left = absurd (false≢true left)
  told_gone (found.Ended k) left = absurd (false≢true left)
  told_gone (found.Reset k code) left = absurd (false≢true left)
  told_gone (found.Broken k code) left = absurd (false≢true left)
  told_gone (found.Fault code) left = absurd (false≢true left)

  silent : (told : Found) {A : Type 0} → ((why : Cause) → left_behind (looked ps told headers) why ≡ over)
      → is_failing (behind told) ≡ true → A
  silent told leaves now =
      absurd (false≢true (sym calm
      ∙ failing_behind (looked ps told headers) stage (heard_of s stage headers (flat_map data_in ps) told) leaves now))

  -- what is heard of one stream
  of_one : (told : Found) (k : ℕ) (heard : Option Heard)
      → is_failing (after (looked ps told headers) stage (cond (k == s) heard None)) ≡ true → Some k ≡ Some s
  of_one told k heard =
      cond_both (k == s) heard None
      (λ (h : Option Heard). is_failing (after (looked ps told headers) stage h) ≡ true → Some k ≡ Some s)
      (λ is now. ap (λ (n : ℕ). Some n) (eqb-true k s is)) (λ apart now. absurd (false≢true (sym calm ∙ now)))

  told_fails : (told : Found) → is_failing (behind told) ≡ true → named told ≡ Some s
  told_fails found.Silent now = absurd (false≢true (sym calm ∙ now))
  told_fails (found.Opened k end) now = of_one (found.Opened k end) k (headed stage (status_of headers) end) now
  told_fails (found.Chunk k end) now = of_one (found.Chunk k end) k (brought stage (flat_map data_in ps)) now
  told_fails (found.Ended k) now = of_one (found.Ended k) k (ended stage) now
  told_fails (found.Reset k code) now = silent (found.Reset k code) (λ why. refl) now
  told_fails (found.Broken k code) now = silent (found.Broken k code) (λ why. refl) now
  told_fails (found.GoneAway last) now = silent (found.GoneAway last) (λ why. refl) now
  told_fails (found.Fault code) now = silent (found.Fault code) (λ why. refl) now

pub one_fails : LooksFailOne
one_fails g x y ps told headers steps s t first second =
    (let both : Some s ≡ Some t = sym (names s first) ∙ names t second in cc)
  where
    names : (k : ℕ) → is_failing (stage_of y k) ≡ true → named told ≡ Some k
    names k now =
        told_fails k ps headers (stage_of x k) (steps.1 k) told
        (settled_failed (is_active steps.3 k) (stage_of (all_hear (looked ps told headers) x) k)
        (sym (ap (λ (w : Gateway). is_failing (stage_of w k)) steps.6) ∙ now))

-- a part that leaves out a stream says that the gateway goes away
told_away : (s : ℕ) (told : Found) → is_left_out s told ≡ true → is_away told ≡ true
told_away s (found.GoneAway last) left = refl
told_away s found.Silent left = left
told_away s (found.Opened k end) left = left
told_away s (found.Chunk k end) left = left
told_away s (found.Ended k) left = left
told_away s (found.Reset k code) left = left
told_away s (found.Broken k code) left = left
told_away s (found.Fault code) left = left

left_away : (s : ℕ) (p : Part) → leaves_out s p ≡ true → says_away p ≡ true
left_away s (looked ps told headers) left = told_away s told left
left_away s (entry call) left = left
left_away s (dialled call key) left = left
left_away s lacked left = left
left_away s (asks k captured authority) left = left
left_away s (tells k heard begun) left = left
left_away s (put k bytes count) left = left
left_away s (finished k) left = left
left_away s (credited k n) left = left
left_away s (reset k code) left = left
left_away s (dropped k begun) left = left
left_away s (done k begun) left = left
left_away s (stopped why) left = left

any_away : (s : ℕ) (parts : List Part) → list_any (leaves_out s) parts ≡ true → list_any says_away parts ≡ true
any_away s [] left = left
any_away s (p ∷ ps) left =
    ⊎_elim (λ here. or_left (says_away p) (list_any says_away ps) (left_away s p here))
    (λ later. or_right (says_away p) (list_any says_away ps) (any_away s ps later))
    (or_cases (leaves_out s p) (list_any (leaves_out s) ps) left)

-- no stream is asked for behind it
no_room : (x : Gateway) → x.away ≡ true → has_room x ≡ true → ⊥
no_room x away room =
    let tests = and_parts (not x.away && is_ok (next_stream x.conn)) (nat_le 1024 (observed.room x.conn)) room in
    let more = and_parts (not x.away) (is_ok (next_stream x.conn)) tests.0 in
    false≢true (sym (not-true x.away more.0) ∙ away)

module _ (g s : ℕ) (x y : Gateway) (parts : List Part) (stands : StandsFor g x parts) where
  gone_at : (z : Gateway) → y ≡ z → is_gone (stage_of z s) ≡ true → is_gone (stage_of y s) ≡ true
  gone_at z is gone = ap (λ (w : Gateway). is_gone (stage_of w s)) is ∙ gone

  -- behind a part that leaves it out
  gone_now : (p : Part) → Steps g x p y → leaves_out s p ≡ true → is_gone (stage_of y s) ≡ true
  gone_now (looked ps told headers) steps left =
      gone_at _ steps.6
      (settled_gone (is_active steps.3 s) (stage_of (all_hear (looked ps told headers) x) s)
      (told_gone s ps headers (stage_of x s) (steps.1 s) told left))
  gone_now (entry call) steps left = absurd (false≢true left)
  gone_now (dialled call key) steps left = absurd (false≢true left)
  gone_now lacked steps left = absurd (false≢true left)
  gone_now (asks k captured authority) steps left = absurd (false≢true left)
  gone_now (tells k heard begun) steps left = absurd (false≢true left)
  gone_now (put k bytes count) steps left = absurd (false≢true left)
  gone_now (finished k) steps left = absurd (false≢true left)
  gone_now (credited k n) steps left = absurd (false≢true left)
  gone_now (reset k code) steps left = absurd (false≢true left)
  gone_now (dropped k begun) steps left = absurd (false≢true left)
  gone_now (done k begun) steps left = absurd (false≢true left)
  gone_now (stopped why) steps left = absurd (false≢true left)

  -- and behind each one later
  module _ (left : list_any (leaves_out s) parts ≡ true) (gone : is_gone (stage_of x s) ≡ true) where
    gone_by : (k : ℕ) (change : Stream → Stream) (c : Connection) → (s ≡ k → is_gone (change (x.streams s)).stage ≡ true)
        → y ≡ record (at_stream k change x) { conn = c } → is_gone (stage_of y s) ≡ true
    gone_by k change c here is =
        gone_at (record (at_stream k change x) { conn = c }) is
        (cond_both (s == k) (change (x.streams s)) (x.streams s) (λ (t : Stream). is_gone t.stage ≡ true)
        (λ same. here (eqb-true s k same)) (λ apart. gone))

    gone_still : (p : Part) → Steps g x p y → is_gone (stage_of y s) ≡ true
    gone_still (entry call) steps =
        gone_at (entered call (all_hear (entry call) x)) steps.1
        (ap is_gone (call_streams call (all_hear (entry call) x) s)
        ∙ gone_hears (entry call) (stage_of x s) (hears x (entry call) s) (called_of x.phase (stage_of x s) call) gone)
    gone_still (dialled call key) steps = gone_at _ steps.1 gone
    gone_still lacked steps =
        gone_at _ steps.1
        (gone_hears lacked (stage_of x s) (hears x lacked s) (failed_of cause.NoMemory (stage_of x s)) gone)
    gone_still (looked ps told headers) steps =
        gone_at _ steps.6
        (settled_gone (is_active steps.3 s) (stage_of (all_hear (looked ps told headers) x) s)
        (gone_hears (looked ps told headers) (stage_of x s) (hears x (looked ps told headers) s)
        (told_of s (stage_of x s) headers (flat_map data_in ps) told) gone))
    gone_still (asks k captured authority) steps =
        absurd (no_room x ((all_know g x parts stands).away ∙ any_away s parts left) (and_parts (carries x.phase) (has_room x) steps.0).1)
    gone_still (tells k heard begun) steps = gone_by k (λ t. record t { mail = None }) x.conn (λ at. gone) steps.2
    gone_still (put k bytes count) steps = gone_at _ steps.4 gone
    gone_still (finished k) steps = gone_at _ steps.3 gone
    gone_still (credited k n) steps = gone_at _ steps.2 gone
    gone_still (reset k code) steps = gone_by k (at_stage over) (observed.aborted x.conn k code) (λ at. refl) steps.2
    gone_still (dropped k begun) steps =
        gone_by k (at_stage (dropped_to k x)) x.conn
        (λ at. absurd (false≢true (sym (gone_ended (stage_of x s) gone)
        ∙ ap (λ (n : ℕ). is_living (stage_of x n)) at ∙ steps.0))) steps.3
    gone_still (done k begun) steps = gone_by k (at_stage over) x.conn (λ at. refl) steps.3
    gone_still (stopped why) steps =
        gone_at _ steps.1
        (gone_hears (stopped why) (stage_of x s) (hears x (stopped why) s) (failed_of why (stage_of x s)) gone)

all_gone : (g : ℕ) (x : Gateway) (parts : List Part) → StandsFor g x parts → (s : ℕ) → list_any (leaves_out s) parts ≡ true
    → is_gone (stage_of x s) ≡ true
all_gone g x parts (begins is none) s left = absurd (false≢true (sym (ap (list_any (leaves_out s)) none) ∙ left))
all_gone g y more (goes_on {x = x} {parts = parts} before p steps grows) s left =
    ⊎_elim (λ was. gone_still g s x y parts before was (all_gone g x parts before s was) p steps)
    (λ now. gone_now g s x y parts before p steps now)
    (or_cases (list_any (leaves_out s) parts) (leaves_out s p)
    (sym (ap (list_any (leaves_out s)) grows ∙ any_one (leaves_out s) parts p) ∙ left))

-- THE LAW

next : (g : ℕ) (x y : Gateway) (before : List Part) (p : Part) → StandsFor g x before → Steps g x p y → ResetsAt before p
next g x y before (reset s code) stands steps = record {
  conn = x.conn;
  stands = (all_keep g x before stands).stands;
  active = reset_active g s code x y before stands steps;
  taken = false_from_ne_true (list_any (leaves_out s) before)
      (λ left. false≢true (sym (ap is_gone steps.1) ∙ all_gone g x before stands s left));
}
next g x y before (entry call) stands steps = tt
next g x y before (dialled call key) stands steps = tt
next g x y before lacked stands steps = tt
next g x y before (looked ps told headers) stands steps = tt
next g x y before (asks s captured authority) stands steps = tt
next g x y before (tells s heard begun) stands steps = tt
next g x y before (put s bytes count) stands steps = tt
next g x y before (finished s) stands steps = tt
next g x y before (credited s n) stands steps = tt
next g x y before (dropped s begun) stands steps = tt
next g x y before (done s begun) stands steps = tt
next g x y before (stopped why) stands steps = tt

pub reset_open : RunsReset
reset_open g x parts stands = at_parts g ResetsAt (next g) x parts stands
