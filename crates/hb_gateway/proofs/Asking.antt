-- Which streams were asked for, in every run of a link.
use Rattle.std.proofs.Common.{◌≡◌, ◌≢◌, ℕ, ◌<◌, ◌≤◌, ◌-◌, ◌==◌, ◌&&◌, ◌||◌, not, nat_le, Bool, true, false, cond, List, [], ◌∷◌, ◌++◌, length, Option, None, Result, Ok, Err, is_ok, refl, ap, sym, ◌∙◌, subst, arith}
use Rattle.std.specs.List.{flat_map, list_any, AllByRecursion}
use Rattle.std.proofs.lemmas.Bool.{false≢true, cond_both, and_parts, eqb-true}
use Rattle.std.proofs.lemmas.Bool.Decides.{nat_tests}
use Rattle.hb_conn.specs.Connection.{Connection, core_of}
use Rattle.hb_conn.specs.Observed as observed
use Rattle.hb_conn.specs.Observed.{next_stream, streams}
use Rattle.hb_conn.specs.declared.found.Found.{Found}
use Rattle.hb_conn.specs.declared.found.Found.TheVariants as found
use Rattle.hb_history.specs.Points as history
use Rattle.hb_history.specs.Points.{data_in}
use Rattle.hb_hpack.specs.declared.header.Header.{Header}
use Rattle.hb_kept.specs.Numbers.{highest_used}
use Rattle.hb_kept.proofs.Rises.{points_raise, writes_leave}
use Rattle.hb_streams.specs.Moves.{after_number}
use Rattle.hb_streams.specs.Numbers.{next_odd}
use Rattle.hb_streams.specs.declared.fault.OpenFault.{OpenFault}
use Rattle.hb_streams.specs.declared.fault.OpenFault.TheVariants.{Full, Spent}
use Rattle.hb_world.specs.declared.entry.Entry.{Entry}
use Rattle.hb_world.specs.declared.entry.Entry.TheVariants as e
use Rattle.hb_gateway.specs.Asks.{asked_in, asked_of, is_away, says_away, MayAsk, AsksAt}
use Rattle.hb_gateway.specs.Gateway.{Gateway, Phase, Stream, no_stream, stage_of, at_stage, at_stream, away_by, carries, has_room, request_of, is_active, settled, dropped_to}
use Rattle.hb_gateway.specs.Hears.{hears_call, hears_by, after, all_hear}
use Rattle.hb_gateway.specs.Laws.{RunsAsk}
use Rattle.hb_gateway.specs.Part.{Part, entry, dialled, lacked, looked, asks, tells, put, finished, credited, reset, dropped, done, stopped, act}
use Rattle.hb_gateway.specs.Response.{Stage, unused, asked, carrying, failing, over, is_living, Heard, heard_of}
use Rattle.hb_gateway.specs.Runs.{entered, Steps, StandsFor, begins, goes_on}
use Rattle.hb_gateway.proofs.Grown.{one_more, at_parts}
use Rattle.hb_gateway.proofs.Runs.{all_keep}

-- NOTHING IS HEARD ON A STREAM THAT WASN'T ASKED FOR

either_none : (b : Bool) (heard : Option Heard) → heard ≡ None → cond b heard None ≡ None
either_none true heard is = is
either_none false heard is = refl

untold : (s : ℕ) (headers : List Header) (bytes : List ℕ) (told : Found) → heard_of s unused headers bytes told ≡ None
untold s headers bytes found.Silent = refl
untold s headers bytes (found.Opened k end) = either_none (k == s) None refl
untold s headers bytes (found.Chunk k end) = either_none (k == s) None refl
untold s headers bytes (found.Ended k) = either_none (k == s) None refl
untold s headers bytes (found.Reset k code) = either_none (k == s) None refl
untold s headers bytes (found.Broken k code) = either_none (k == s) None refl
untold s headers bytes (found.GoneAway last) = either_none _ None refl
untold s headers bytes (found.Fault code) = refl

uncalled : (phase : Phase) (call : Entry) → hears_call phase unused call ≡ None
uncalled phase (e.Accepted k door) = refl
uncalled phase (e.Dialled k to why) = refl
uncalled phase (e.DialFailed to why) = refl
uncalled phase (e.Opened k) = refl
uncalled phase (e.Came k bytes) = refl
uncalled phase (e.Ended k) = refl
uncalled phase (e.Broke k) = refl
uncalled phase (e.Went k bytes) = refl
uncalled phase (e.Balked how) = refl
uncalled phase (e.Shut k) = refl
uncalled phase (e.Closed k why) = refl
uncalled phase e.Tick = refl
uncalled phase (e.Wait ready how) = refl

unheard : (phase : Phase) (s : ℕ) (p : Part) → hears_by phase s unused p ≡ None
unheard phase s (entry call) = uncalled phase call
unheard phase s (dialled call key) = refl
unheard phase s lacked = refl
unheard phase s (looked ps told headers) = untold s headers (flat_map data_in ps) told
unheard phase s (asks k captured authority) = refl
unheard phase s (tells k heard begun) = refl
unheard phase s (put k bytes count) = refl
unheard phase s (finished k) = refl
unheard phase s (credited k n) = refl
unheard phase s (reset k code) = refl
unheard phase s (dropped k begun) = refl
unheard phase s (done k begun) = refl
unheard phase s (stopped why) = refl

hears_none : (x : Gateway) (p : Part) (s : ℕ) → stage_of x s ≡ unused → stage_of (all_hear p x) s ≡ unused
hears_none x p s is =
    ap (λ (t : Stage). after p t (hears_by x.phase s t p)) is ∙ ap (after p unused) (unheard x.phase s p)

-- SO IT STAYS UNUSED UNTIL IT IS ASKED FOR

-- a stream that has another stage isn't this one
elsewhere : (k s : ℕ) (x : Gateway) (change : Stream → Stream) → (stage_of x k ≡ unused → ⊥) → stage_of x s ≡ unused
    → stage_of (at_stream k change x) s ≡ unused
elsewhere k s x change used is =
    cond_both (s == k) (change (x.streams s)) (x.streams s) (λ (t : Stream). t.stage ≡ unused)
    (λ same. absurd (used (subst (λ (n : ℕ). stage_of x n ≡ unused) (eqb-true s k same) is))) (λ apart. is)

another : (k s : ℕ) (x : Gateway) (change : Stream → Stream) → k ≢ s → stage_of x s ≡ unused
    → stage_of (at_stream k change x) s ≡ unused
another k s x change apart is =
    cond_both (s == k) (change (x.streams s)) (x.streams s) (λ (t : Stream). t.stage ≡ unused)
    (λ same. absurd (apart (sym (eqb-true s k same)))) (λ other. is)

-- one at this stage is used
used_at : (stage other : Stage) → stage ≡ other → (other ≡ unused → ⊥) → stage ≡ unused → ⊥
used_at stage other is used was = used (sym is ∙ was)

living_used : (stage : Stage) → is_living stage ≡ true → stage ≡ unused → ⊥
living_used stage lives was = false≢true (sym (ap is_living was) ∙ lives)

pub call_streams : (call : Entry) (x : Gateway) (s : ℕ) → stage_of (entered call x) s ≡ stage_of x s
call_streams (e.Accepted k door) x s = refl
call_streams (e.Dialled k to why) x s = refl
call_streams (e.DialFailed to why) x s = refl
call_streams (e.Opened k) x s = refl
call_streams (e.Came k bytes) x s = refl
call_streams (e.Ended k) x s = refl
call_streams (e.Broke k) x s = refl
call_streams (e.Went k bytes) x s = refl
call_streams (e.Balked how) x s = refl
call_streams (e.Shut k) x s = refl
call_streams (e.Closed k why) x s = refl
call_streams e.Tick x s = refl
call_streams (e.Wait ready how) x s = refl

settled_unused : (active : Bool) (stage : Stage) → stage ≡ unused → settled active stage ≡ unused
settled_unused true stage is = is
settled_unused false stage is = ap (settled false) is

module _ (g : ℕ) (x y : Gateway) (s : ℕ) where
  stage_is : (z : Gateway) → y ≡ z → stage_of z s ≡ unused → stage_of y s ≡ unused
  stage_is z is now = ap (λ (w : Gateway). stage_of w s) is ∙ now

  pub step_unused : (p : Part) → Steps g x p y → AllByRecursion (λ k. k ≢ s) (asked_in p) → stage_of x s ≡ unused → stage_of y s ≡ unused
  step_unused (entry call) steps others is =
      stage_is (entered call (all_hear (entry call) x)) steps.1
      (call_streams call (all_hear (entry call) x) s ∙ hears_none x (entry call) s is)
  step_unused (dialled call key) steps others is = stage_is _ steps.1 is
  step_unused lacked steps others is = stage_is _ steps.1 (hears_none x lacked s is)
  step_unused (looked ps told headers) steps others is =
      stage_is _ steps.6
      (settled_unused (is_active steps.3 s) (stage_of (all_hear (looked ps told headers) x) s) (hears_none x (looked ps told headers) s is))
  step_unused (asks k captured authority) steps others is =
      stage_is _ steps.2 (another k s x (λ t. record no_stream { stage = asked; captured = captured }) others.0 is)
  step_unused (tells k heard begun) steps others is =
      stage_is _ steps.2
      (cond_both (s == k) (record (x.streams s) { mail = None }) (x.streams s) (λ (t : Stream). t.stage ≡ unused) (λ same. is)
      (λ apart. is))
  step_unused (put k bytes count) steps others is = stage_is _ steps.4 is
  step_unused (finished k) steps others is = stage_is _ steps.3 is
  step_unused (credited k n) steps others is = stage_is _ steps.2 is
  step_unused (reset k code) steps others is =
      stage_is _ steps.2 (elsewhere k s x (at_stage over) (used_at (stage_of x k) (failing code) steps.1 (λ was. cc)) is)
  step_unused (dropped k begun) steps others is =
      stage_is _ steps.3 (elsewhere k s x (at_stage (dropped_to k x)) (living_used (stage_of x k) steps.0) is)
  step_unused (done k begun) steps others is =
      stage_is _ steps.3 (elsewhere k s x (at_stage over) (used_at (stage_of x k) carrying steps.0.0.1 (λ was. cc)) is)
  step_unused (stopped why) steps others is = stage_is _ steps.1 (hears_none x (stopped why) s is)

-- NUMBERS

number_by : (full spent : Bool) (n s : ℕ) → cond full (Err Full) (cond spent (Err Spent) (Ok n)) ≡ Ok s → n ≡ s
number_by true spent n s is = absurd (cc)
number_by false true n s is = absurd (cc)
number_by false false n s is = cc

-- a stream that is opened is above all that were used, and the highest then
pub number_above : (c : Connection) (s : ℕ) → next_stream c ≡ Ok s → highest_used c < s
number_above c s is =
    let next = number_by _ _ (next_odd (highest_used c)) s is in
    omega (arith, next)

pub number_highest : (c : Connection) (s : ℕ) (headers : List Header) → next_stream c ≡ Ok s
    → highest_used (observed.opened c s headers false) ≡ s
number_highest c s headers is = ap (λ (r : Result ℕ OpenFault). (after_number (streams c) r).highest) is

call_rises : (call : Entry) (x : Gateway) → highest_used x.conn ≤ highest_used (entered call x).conn
call_rises (e.Accepted k door) x = omega arith
call_rises (e.Dialled k to why) x = omega arith
call_rises (e.DialFailed to why) x = omega arith
call_rises (e.Opened k) x = omega arith
call_rises (e.Came k bytes) x = omega arith
call_rises (e.Ended k) x = omega arith
call_rises (e.Broke k) x = omega arith
call_rises (e.Went k bytes) x =
    let same = ap (λ t. t.highest) (writes_leave x.conn (length bytes - length x.front)) in omega (arith, same)
call_rises (e.Balked how) x = omega arith
call_rises (e.Shut k) x = omega arith
call_rises (e.Closed k why) x = omega arith
call_rises e.Tick x = omega arith
call_rises (e.Wait ready how) x = omega arith

module _ (g : ℕ) (x y : Gateway) where
  to : (c : Connection) → y.conn ≡ c → highest_used x.conn ≤ highest_used c → highest_used x.conn ≤ highest_used y.conn
  to c is rises = subst (λ (d : Connection). highest_used x.conn ≤ highest_used d) (sym is) rises

  same : y.conn ≡ x.conn → highest_used x.conn ≤ highest_used y.conn
  same is = to x.conn is (omega arith)

  pub step_rises : (p : Part) → Steps g x p y → highest_used x.conn ≤ highest_used y.conn
  step_rises (entry call) steps = to _ (ap (λ (z : Gateway). z.conn) steps.1) (call_rises call (all_hear (entry call) x))
  step_rises (dialled call key) steps = same (ap (λ (z : Gateway). z.conn) steps.1)
  step_rises lacked steps = same (ap (λ (z : Gateway). z.conn) steps.1)
  step_rises (looked ps told headers) steps =
      to steps.3 (ap (λ (z : Gateway). z.conn) steps.6) (points_raise x.conn steps.3 ps steps.4.runs)
  step_rises (asks s captured authority) steps =
      let above = number_above x.conn s steps.1 in
      let highest = number_highest x.conn s (request_of authority) steps.1 in
      to _ (ap (λ (z : Gateway). z.conn) steps.2) (omega (arith, above, highest))
  step_rises (tells s heard begun) steps = same (ap (λ (z : Gateway). z.conn) steps.2)
  step_rises (put s bytes count) steps =
      let d = observed.data_put x.conn s bytes in
      to d (ap (λ (z : Gateway). z.conn) steps.4)
      (points_raise x.conn d (act (history.put s bytes)) (core_of d, (refl, refl), refl))
  step_rises (finished s) steps =
      let d = observed.end_put x.conn s in
      to d (ap (λ (z : Gateway). z.conn) steps.3) (points_raise x.conn d (act (history.ended s)) (core_of d, (refl, refl), refl))
  step_rises (credited s n) steps =
      let d = observed.credited x.conn s n in
      to d (ap (λ (z : Gateway). z.conn) steps.2)
      (points_raise x.conn d (act (history.credited s n)) (core_of d, (steps.1, (refl, refl)), refl))
  step_rises (reset s code) steps =
      let d = observed.aborted x.conn s code in
      to d (ap (λ (z : Gateway). z.conn) steps.2) (points_raise x.conn d (act (history.reset s code)) (core_of d, (refl, refl), refl))
  step_rises (dropped s begun) steps = same (ap (λ (z : Gateway). z.conn) steps.3)
  step_rises (done s begun) steps = same (ap (λ (z : Gateway). z.conn) steps.3)
  step_rises (stopped why) steps = same (ap (λ (z : Gateway). z.conn) steps.1)

-- WHETHER THE GATEWAY GOES AWAY

pub any_one : {A : Type 0} (f : A → Bool) (xs : List A) (a : A) → list_any f (xs ++ a ∷ []) ≡ (list_any f xs || f a)
any_one f [] a = by (f a)
  where
    by : (b : Bool) → (b || false) ≡ (false || b)
    by true = refl
    by false = refl
any_one f (x ∷ xs) a = by (f x) (any_one f xs a)
  where
    by : (b : Bool) → list_any f (xs ++ a ∷ []) ≡ (list_any f xs || f a)
        → (b || list_any f (xs ++ a ∷ [])) ≡ ((b || list_any f xs) || f a)
    by true is = refl
    by false is = is

or_false : (b : Bool) → b ≡ (b || false)
or_false true = refl
or_false false = refl

or_true : (b : Bool) → true ≡ (b || true)
or_true true = refl
or_true false = refl

away_told : (away : Bool) (told : Found) → away_by away told ≡ (away || is_away told)
away_told away found.Silent = or_false away
away_told away (found.Opened s end) = or_false away
away_told away (found.Chunk s end) = or_false away
away_told away (found.Ended s) = or_false away
away_told away (found.Reset s code) = or_false away
away_told away (found.Broken s code) = or_false away
away_told away (found.GoneAway last) = or_true away
away_told away (found.Fault code) = or_false away

call_away : (call : Entry) (x : Gateway) → (entered call x).away ≡ x.away
call_away (e.Accepted k door) x = refl
call_away (e.Dialled k to why) x = refl
call_away (e.DialFailed to why) x = refl
call_away (e.Opened k) x = refl
call_away (e.Came k bytes) x = refl
call_away (e.Ended k) x = refl
call_away (e.Broke k) x = refl
call_away (e.Went k bytes) x = refl
call_away (e.Balked how) x = refl
call_away (e.Shut k) x = refl
call_away (e.Closed k why) x = refl
call_away e.Tick x = refl
call_away (e.Wait ready how) x = refl

step_away : (g : ℕ) (x y : Gateway) (p : Part) → Steps g x p y → y.away ≡ (x.away || says_away p)
step_away g x y (entry call) steps =
    ap (λ (z : Gateway). z.away) steps.1 ∙ call_away call (all_hear (entry call) x) ∙ or_false x.away
step_away g x y (dialled call key) steps = ap (λ (z : Gateway). z.away) steps.1 ∙ or_false x.away
step_away g x y lacked steps = ap (λ (z : Gateway). z.away) steps.1 ∙ or_false x.away
step_away g x y (looked ps told headers) steps = ap (λ (z : Gateway). z.away) steps.6 ∙ away_told x.away told
step_away g x y (asks s captured authority) steps = ap (λ (z : Gateway). z.away) steps.2 ∙ or_false x.away
step_away g x y (tells s heard begun) steps = ap (λ (z : Gateway). z.away) steps.2 ∙ or_false x.away
step_away g x y (put s bytes count) steps = ap (λ (z : Gateway). z.away) steps.4 ∙ or_false x.away
step_away g x y (finished s) steps = ap (λ (z : Gateway). z.away) steps.3 ∙ or_false x.away
step_away g x y (credited s n) steps = ap (λ (z : Gateway). z.away) steps.2 ∙ or_false x.away
step_away g x y (reset s code) steps = ap (λ (z : Gateway). z.away) steps.2 ∙ or_false x.away
step_away g x y (dropped s begun) steps = ap (λ (z : Gateway). z.away) steps.3 ∙ or_false x.away
step_away g x y (done s begun) steps = ap (λ (z : Gateway). z.away) steps.3 ∙ or_false x.away
step_away g x y (stopped why) steps = ap (λ (z : Gateway). z.away) steps.1 ∙ or_false x.away

-- WHAT EVERY RUN KEEPS

pub record Knows (parts : List Part) (x : Gateway) : Type 0 where
  pub below : AllByRecursion (λ k. k ≤ highest_used x.conn) (asked_of parts)
  pub unused : (s : ℕ) → highest_used x.conn < s → stage_of x s ≡ unused
  pub away : x.away ≡ list_any says_away parts

all_so : (P Q : ℕ → Type 0) → ((n : ℕ) → P n → Q n) → (ns : List ℕ) → AllByRecursion P ns → AllByRecursion Q ns
all_so P Q so [] each = tt
all_so P Q so (n ∷ ns) each = (so n each.0, all_so P Q so ns each.1)

all_both : (P : ℕ → Type 0) (ns ms : List ℕ) → AllByRecursion P ns → AllByRecursion P ms → AllByRecursion P (ns ++ ms)
all_both P [] ms first second = second
all_both P (n ∷ ns) ms first second = (first.0, all_both P ns ms first.1 second)

-- a stream that a part asks for is the highest behind it
asked_highest : (g : ℕ) (x y : Gateway) (p : Part) → Steps g x p y → AllByRecursion (λ k. k ≤ highest_used y.conn) (asked_in p)
asked_highest g x y (asks s captured authority) steps =
    let highest = number_highest x.conn s (request_of authority) steps.1 in
    (subst (λ (d : Connection). s ≤ highest_used d) (sym (ap (λ (z : Gateway). z.conn) steps.2)) (omega (arith, highest)), tt)
asked_highest g x y (entry call) steps = tt
asked_highest g x y (dialled call key) steps = tt
asked_highest g x y lacked steps = tt
asked_highest g x y (looked ps told headers) steps = tt
asked_highest g x y (tells s heard begun) steps = tt
asked_highest g x y (put s bytes count) steps = tt
asked_highest g x y (finished s) steps = tt
asked_highest g x y (credited s n) steps = tt
asked_highest g x y (reset s code) steps = tt
asked_highest g x y (dropped s begun) steps = tt
asked_highest g x y (done s begun) steps = tt
asked_highest g x y (stopped why) steps = tt

step_knows : (g : ℕ) (x y : Gateway) (parts : List Part) (p : Part) → Steps g x p y → Knows parts x → Knows (parts ++ p ∷ []) y
step_knows g x y parts p steps knows =
    let rises = step_rises g x y p steps in
    let now = asked_highest g x y p steps in
    record {
      below = subst (AllByRecursion (λ k. k ≤ highest_used y.conn)) (sym (one_more asked_in parts p))
          (all_both (λ k. k ≤ highest_used y.conn) (asked_of parts) (asked_in p)
          (all_so (λ k. k ≤ highest_used x.conn) (λ k. k ≤ highest_used y.conn) (λ k was. omega (arith, was, rises)) (asked_of parts)
          knows.below) now);
      unused = λ s above.
          step_unused g x y s p steps
          (all_so (λ k. k ≤ highest_used y.conn) (λ k. k ≢ s) (λ k low is. absurd (omega (arith, low, above, is))) (asked_in p) now)
          (knows.unused s (omega (arith, above, rises)));
      away = step_away g x y p steps ∙ ap (λ (b : Bool). b || says_away p) knows.away ∙ sym (any_one says_away parts p);
    }

pub all_know : (g : ℕ) (x : Gateway) (parts : List Part) → StandsFor g x parts → Knows parts x
all_know g x parts (begins is none) =
    subst (λ (ps : List Part). Knows ps x) (sym none)
    (subst (Knows []) (sym is) (record { below = tt; unused = λ s above. refl; away = refl }))
all_know g y more (goes_on {x = x} {parts = parts} before p steps grows) =
    subst (λ (ps : List Part). Knows ps y) (sym grows) (step_knows g x y parts p steps (all_know g x parts before))

-- THE LAW

not_false : (b : Bool) → not b ≡ true → b ≡ false
not_false true is = sym is
not_false false is = refl

may_ask : (g : ℕ) (x : Gateway) (before : List Part) (s : ℕ) → StandsFor g x before → has_room x ≡ true → next_stream x.conn ≡ Ok s
    → MayAsk before s
may_ask g x before s stands room number =
    let knows = all_know g x before stands in
    let above = number_above x.conn s number in
    let tests = and_parts (not x.away && is_ok (next_stream x.conn)) (nat_le 1024 (observed.room x.conn)) room in
    let more = and_parts (not x.away) (is_ok (next_stream x.conn)) tests.0 in
    record {
      conn = x.conn;
      stands = (all_keep g x before stands).stands;
      number = number;
      room = (let enough = tests.1 in grind (arith, nat_tests, enough));
      above = all_so (λ k. k ≤ highest_used x.conn) (λ k. k < s) (λ k low. omega (arith, low, above)) (asked_of before) knows.below;
      stays = sym knows.away ∙ not_false x.away more.0;
    }

next : (g : ℕ) (x y : Gateway) (before : List Part) (p : Part) → StandsFor g x before → Steps g x p y → AsksAt before p
next g x y before (asks s captured authority) stands steps =
    may_ask g x before s stands (and_parts (carries x.phase) (has_room x) steps.0).1 steps.1
next g x y before (entry call) stands steps = tt
next g x y before (dialled call key) stands steps = tt
next g x y before lacked stands steps = tt
next g x y before (looked ps told headers) stands steps = tt
next g x y before (tells s heard begun) stands steps = tt
next g x y before (put s bytes count) stands steps = tt
next g x y before (finished s) stands steps = tt
next g x y before (credited s n) stands steps = tt
next g x y before (reset s code) stands steps = tt
next g x y before (dropped s begun) stands steps = tt
next g x y before (done s begun) stands steps = tt
next g x y before (stopped why) stands steps = tt

pub ask : RunsAsk
ask g x parts stands = at_parts g AsksAt (next g) x parts stands
