-- All is over only where a connection error was told.
use Rattle.std.proofs.Common.{◌≡◌, ◌⊎◌, inl, inr, ℕ, ◌==◌, Bool, true, false, cond, List, [], ◌∷◌, Option, Some, None, Result, Ok, Err, refl, ap, ◌∙◌}
use Rattle.std.specs.Prelude.{nat_lt}
use Rattle.std.specs.FinMap.{get}
use Rattle.std.proofs.lemmas.Bool.{cond_both}
use Rattle.hb_base.specs.declared.scope.Scope.{Scope}
use Rattle.hb_base.specs.declared.scope.Scope.TheVariants as scope
use Rattle.hb_frames.specs.Reading.{asked}
use Rattle.hb_streams.specs.Answers.{answer_of}
use Rattle.hb_streams.specs.Sides.{sides_of}
use Rattle.hb_streams.specs.States.{state_of}
use Rattle.hb_streams.specs.declared.step.Step.{Step}
use Rattle.hb_streams.specs.declared.step.Step.TheVariants as step
use Rattle.hb_streams.specs.declared.fault.StreamFault.{StreamFault}
use Rattle.hb_flow.specs.Windows.{Windows}
use Rattle.hb_flow.specs.Flows.{granted, granted_on, paid_on, due_on}
use Rattle.hb_blocks.specs.Assembly.{Progress}
use Rattle.hb_blocks.specs.declared.fault.BlockFault.{BlockFault}
use Rattle.hb_blocks.specs.declared.whole.Whole.{Whole}
use Rattle.hb_owed.specs.declared.due.Due.{Due}
use Rattle.hb_conn.specs.Connection.{Connection, Finds}
use Rattle.hb_conn.specs.Credit.{used_on, credit}
use Rattle.hb_conn.specs.Data.{updated, credited_on, used, padded, is_of_idle, continued, data_goes, data_answered, on_data}
use Rattle.hb_conn.specs.Faults.{faulted, is_active, released, given_up, cancelled, aborted, broken, refused, refused_by}
use Rattle.hb_conn.specs.Glance.{glance_of}
use Rattle.hb_conn.specs.Handling.{does, Answers, HandlesBy, Handles}
use Rattle.hb_conn.specs.Headers.{headed, headers_answered, block_told, DoesBlock}
use Rattle.hb_conn.specs.Outcome.{Outcome, outcome, Gives}
use Rattle.hb_conn.specs.Owing.{put_now, put_later, goes_at_once, with_due, with_update, owed_paid}
use Rattle.hb_conn.specs.Places.{is_misplaced}
use Rattle.hb_conn.specs.Resets.{peer_reset, reset_answered}
use Rattle.hb_conn.specs.Settings.{noted, Resized, AppliesBy, AppliesAll, Then, applied, SettlesBy, DoesSettings}
use Rattle.hb_conn.specs.Frames.{sent, ping_ack}
use Rattle.hb_frames.specs.Numbers.{data_kind, window_update_kind, max_concurrent_streams, initial_window_size}
use Rattle.hb_frames.specs.Numbers.{max_frame_size, protocol_error, flow_control_error}
use Rattle.hb_conn.specs.Windows.{connection_grows, stream_grows, stream_answered, on_window}
use Rattle.hb_conn.specs.declared.machine.Core.{Core}
use Rattle.hb_conn.specs.declared.found.Found.{Found}
use Rattle.hb_conn.specs.declared.found.Found.TheVariants as found
use Rattle.hb_conn.specs.declared.glance.Glance.{Glance}
use Rattle.hb_conn.specs.declared.glance.Glance.TheVariants as glance
use Rattle.hb_history.proofs.Found.{Holds, finds_so}

-- all is over as before, or a connection error is told
abbrev pub Rises : Core → Core → Found → Type 0
Rises c new told = (new.over ≡ c.over) ⊎ ((code : ℕ) × (told ≡ found.Fault code))

abbrev OutRises : Core → Outcome → Type 0
OutRises c o = Rises c o.core o.found

given : (c : Core) (o : Outcome) (new : Core) (told : Found) → OutRises c o → Gives o new told → Rises c new told
given c o new told (inl same) is = inl (ap (λ (x : Core). x.over) is.0 ∙ same)
given c o new told (inr fault) is = inr (fault.0, is.1 ∙ fault.1)

either : (c : Core) (b : Bool) (o p : Outcome) → OutRises c o → OutRises c p → OutRises c (cond b o p)
either c true o p first second = first
either c false o p first second = second

fault : (c d : Core) (code : ℕ) → OutRises c (faulted d code)
unfolding faulted
fault c d code = inr (code, refl)

-- what is put, owed or given up on a stream leaves it

due_over : (c : Core) (s : ℕ) (d : Due) → (with_due c s d).over ≡ c.over
unfolding with_due
due_over c s d =
    cond_both (goes_at_once c s d) (put_now c s d) (put_later c s d) (λ (x : Core). x.over ≡ c.over) (λ is. refl) (λ is. refl)

update_over : (c : Core) (s : ℕ) (o : Option ℕ) → (with_update c s o).over ≡ c.over
update_over c s None = refl
update_over c s (Some n) = due_over c s _

updated_over : (c : Core) (o : Option ℕ) → (updated c o).over ≡ c.over
updated_over c None = refl
updated_over c (Some n) = refl

pub paid_over : (c : Core) → (owed_paid c).over ≡ c.over
unfolding owed_paid
paid_over c = refl

released_over : (c : Core) (s : ℕ) → (released c s).over ≡ c.over
released_over c s = cond_both (is_active c.streams s) c _ (λ (x : Core). x.over ≡ c.over) (λ is. refl) (λ is. refl)

cancelled_over : (c : Core) (s : ℕ) → (cancelled c s).over ≡ c.over
cancelled_over c s = cond_both (is_active c.streams s) _ c (λ (x : Core). x.over ≡ c.over) (λ is. refl) (λ is. refl)

aborted_over : (c : Core) (s code : ℕ) → (aborted c s code).over ≡ c.over
unfolding aborted
aborted_over c s code = paid_over _ ∙ released_over _ s ∙ due_over _ s _ ∙ cancelled_over c s

given_up_over : (c : Core) (s : ℕ) → (given_up c s).over ≡ c.over
given_up_over c s = paid_over _ ∙ released_over _ s

refusal : (c d : Core) (why : StreamFault) → d.over ≡ c.over → OutRises c (refused d why)
refusal c d why same = by why.scope
  where
    by : (reach : Scope) → OutRises c (refused_by d reach why.code)
    by scope.Connection = fault c d why.code
    by (scope.Stream s) = inl (aborted_over d s why.code ∙ same)

credited_over : (c : Core) (s : ℕ) → (credited_on c s).over ≡ c.over
credited_over c s = update_over (record c { flow = paid_on c.flow s }) s (due_on c.flow s)

continued_over : (c : Core) (s : ℕ) (end : Bool) → (continued c s end).over ≡ c.over
continued_over c s true = released_over _ s
continued_over c s false = credited_over c s

credit_by : (c : Core) (s : ℕ) (b : Bool) → (cond b (credited_on c s) c).over ≡ c.over
credit_by c s true = credited_over c s
credit_by c s false = refl

-- nor what is used up
pub credit_over : (c : Core) (s n : ℕ) → (credit c s n).over ≡ c.over
credit_over c s n = credit_by (used_on c s n) s (sides_of (state_of c.streams s)).peer

-- frame by frame

data_by : (c d : Core) (s n size : ℕ) (end : Bool) (o : Option Windows) → d.over ≡ c.over → OutRises c (data_goes d s n size end o)
data_by c d s n size end None same = inl (continued_over d s end ∙ same)
data_by c d s n size end (Some w) same =
    either c (nat_lt w.taking.granted n) (broken d s flow_control_error) (outcome (continued (padded d s n size) s end) (found.Chunk s end))
    (inl (aborted_over d s flow_control_error ∙ same)) (inl (continued_over (padded d s n size) s end ∙ same))

data_answers : (c d : Core) (s n size : ℕ) (end : Bool) (r : Result Step StreamFault) → d.over ≡ c.over
    → OutRises c (data_answered d s n size end r)
data_answers c d s n size end (Ok step.Goes) same = data_by c d s n size end (get d.flow.streams s) same
data_answers c d s n size end (Ok step.New) same = inl same
data_answers c d s n size end (Ok step.Ignored) same = inl same
data_answers c d s n size end (Err why) same = refusal c d why same

on_data_rises : (c : Core) (s n size : ℕ) (end : Bool) → OutRises c (on_data c s n size end)
on_data_rises c s n size end =
    let r = answer_of c.streams data_kind s in
    let goes = data_answered (used c n) s n size end r in
    either c (is_of_idle r) (faulted c protocol_error) (cond (nat_lt c.flow.taking.granted n) (faulted c flow_control_error) goes)
    (fault c c protocol_error)
    (either c (nat_lt c.flow.taking.granted n) (faulted c flow_control_error) goes (fault c c flow_control_error)
    (data_answers c (used c n) s n size end r (updated_over _ _)))

reset_answers : (c : Core) (s code : ℕ) (r : Result Step StreamFault) → OutRises c (reset_answered c s code r)
reset_answers c s code (Ok step.Goes) = inl (given_up_over (peer_reset c s) s)
reset_answers c s code (Ok step.New) = inl refl
reset_answers c s code (Ok step.Ignored) = inl refl
reset_answers c s code (Err why) = refusal c c why refl

window_grows : (c : Core) (s n : ℕ) (o : Option Windows) → OutRises c (stream_grows c s n o)
window_grows c s n None = inl refl
window_grows c s n (Some w) =
    either c _ (broken c s flow_control_error) (outcome (record c { flow = granted_on c.flow s n }) found.Silent)
    (inl (aborted_over c s flow_control_error)) (inl refl)

window_answers : (c : Core) (s n : ℕ) (r : Result Step StreamFault) → OutRises c (stream_answered c s n r)
window_answers c s n (Ok step.Goes) =
    either c (n == 0) (broken c s protocol_error) (stream_grows c s n (get c.flow.streams s)) (inl (aborted_over c s protocol_error))
    (window_grows c s n (get c.flow.streams s))
window_answers c s n (Ok step.New) = inl refl
window_answers c s n (Ok step.Ignored) = inl refl
window_answers c s n (Err why) = refusal c c why refl

on_window_rises : (c : Core) (s n : ℕ) → OutRises c (on_window c s n)
on_window_rises c s n =
    let r = answer_of c.streams window_update_kind s in
    either c (s == 0) (connection_grows c n) (stream_answered c s n r)
    (either c _ (faulted c flow_control_error) (outcome (record c { flow = granted c.flow n }) found.Silent)
    (fault c c flow_control_error) (inl refl))
    (window_answers c s n r)

headers_answers : (c d : Core) (s : ℕ) (end : Bool) (r : Result Step StreamFault) → d.over ≡ c.over
    → OutRises c (headers_answered d s end r)
headers_answers c d s end (Ok step.New) same = inl same
headers_answers c d s end (Ok step.Goes) same = inl (released_over (headed d s end) s ∙ same)
headers_answers c d s end (Ok step.Ignored) same = inl same
headers_answers c d s end (Err why) same = refusal c (headed d s end) why same

block_tells : (c d : Core) (told : Result (Option Whole) BlockFault) → d.over ≡ c.over → OutRises c (block_told d told)
block_tells c d (Ok None) same = inl same
block_tells c d (Ok (Some whole)) same = headers_answers c d whole.stream whole.end_stream _ same
block_tells c d (Err why) same = fault c d _

block_rises : (progress : Progress) (c new : Core) (told : Found) → DoesBlock progress c new told → Rises c new told
block_rises progress c new told does =
    given c _ new told (block_tells c (record c { blocks = does.0 }) does.1 refl) does.3

noted_over : (c : Core) (s : ℕ × ℕ) → (noted c s).over ≡ c.over
noted_over c s = by (s.0 == max_concurrent_streams) (s.0 == max_frame_size)
  where
    by : (a b : Bool) → (cond a (record c { peer = record c.peer { streams = s.1 } })
        (cond b (record c { peer = record c.peer { frame_size = s.1 } }) c)).over ≡ c.over
    by true b = refl
    by false true = refl
    by false false = refl

resized_over : (c new : Core) (k : ℕ) (fits : Bool) → Resized c k new fits → new.over ≡ c.over
resized_over c new k true is = ap (λ (x : Core). x.over) is.2
resized_over c new k false (inl large) = ap (λ (x : Core). x.over) large.1
resized_over c new k false (inr over) = ap (λ (x : Core). x.over) over.3

one_over : (b : Bool) (c new : Core) (s : ℕ × ℕ) (fits : Bool) → AppliesBy b c s new fits → new.over ≡ c.over
one_over true c new s fits is = resized_over c new s.1 fits is
one_over false c new s fits is = ap (λ (x : Core). x.over) is.0 ∙ noted_over c s

all_over : (pairs : List (ℕ × ℕ)) (c new : Core) (fits : Bool) → AppliesAll c pairs new fits → new.over ≡ c.over
all_over [] c new fits is = ap (λ (x : Core). x.over) is.0
all_over (s ∷ more) c new fits is = by is.1 (all_over more is.0 new fits) is.3 ∙ one_over (s.0 == initial_window_size) c is.0 s is.1 is.2
  where
    by : (ok : Bool) → (AppliesAll is.0 more new fits → new.over ≡ is.0.over)
        → Then ok (AppliesAll is.0 more new fits) ((new ≡ is.0) × (fits ≡ false)) → new.over ≡ is.0.over
    by true later rest = later rest
    by false later rest = ap (λ (x : Core). x.over) rest.0

applied_rises : (c mid : Core) (fits : Bool) → mid.over ≡ c.over → OutRises c (applied mid fits)
applied_rises c mid true same = inl same
applied_rises c mid false same = fault c mid _

settings_by : (b : Bool) (c : Core) (pairs : List (ℕ × ℕ)) (new : Core) (told : Found) → SettlesBy b c pairs new told → Rises c new told
settings_by true c pairs new told is = given c _ new told (fault c c _) is
settings_by false c pairs new told is =
    given c _ new told (applied_rises c is.0 is.1 (all_over pairs c is.0 is.1 is.2)) is.3

settings_rise : (ack : Bool) (c : Core) (payload : List ℕ) (new : Core) (told : Found) → DoesSettings ack c payload new told
    → Rises c new told
settings_rise true c payload new told is = inl (ap (λ (x : Core). x.over) is.0)
settings_rise false c payload new told is = settings_by _ c _ new told is

answers_rise : (c : Core) (g : Glance) (bytes : List ℕ) (new : Core) (told : Found) → Answers c g bytes new told → Rises c new told
answers_rise c glance.Nothing bytes new told is = given c _ new told (inl refl) is
answers_rise c (glance.Data s n end) bytes new told is = given c _ new told (on_data_rises c s n _ end) is
answers_rise c (glance.Headers s end whole) bytes new told is = block_rises _ c new told is
answers_rise c (glance.Reset s code) bytes new told is = given c _ new told (reset_answers c s code _) is
answers_rise c (glance.Settings ack) bytes new told is = settings_rise ack c bytes new told is
answers_rise c (glance.Ping ack value) bytes new told is =
    given c (does c (glance.Ping ack value) bytes) new told
    (either c ack (outcome c found.Silent) (outcome (sent c (ping_ack value)) found.Silent) (inl refl) (inl refl)) is
answers_rise c (glance.GoAway last) bytes new told is = given c _ new told (inl refl) is
answers_rise c (glance.Window s n) bytes new told is = given c _ new told (on_window_rises c s n) is
answers_rise c (glance.Continuation s whole) bytes new told is = block_rises _ c new told is
answers_rise c glance.Other bytes new told is = given c _ new told (inl refl) is
answers_rise c (glance.Refused code row kind flags) bytes new told is = given c _ new told (fault c c code) is

handles_by : (b : Bool) (c : Core) (g : Glance) (bytes : List ℕ) (new : Core) (told : Found) → HandlesBy b c g bytes new told
    → Rises c new told
handles_by true c g bytes new told is = given c _ new told (fault c c _) is
handles_by false c g bytes new told is = answers_rise c g bytes new told is

pub handled_over : (c : Core) (g : Glance) (bytes : List ℕ) (new : Core) (told : Found) → Handles c g bytes new told → Rises c new told
handled_over c g bytes new told is = handles_by (is_misplaced c g) c g bytes new told is

-- and so it is with what is found next
rises_on : (c mid new : Core) (told : Found) → Rises c mid found.Silent → Rises mid new told → Rises c new told
rises_on c mid new told (inl same) (inl next) = inl (next ∙ same)
rises_on c mid new told (inl same) (inr why) = inr why
rises_on c mid new told (inr why) next = absurd (let never = why.1 in cc)

rising : Holds Rises
rising = record {
  same = λ c new told still is. inl (ap (λ (x : Core). x.over) is);
  on = rises_on;
  handled = λ r c new told is. handled_over c (glance_of r) (asked r).last new told is;
  faults = λ c new code told is. given c _ new told (fault c c code) is;
}

abbrev FindsOver : Connection → Connection → Found → Type 0
FindsOver c d told = Rises c.receiver.core d.receiver.core told

pub finds_over : (c d : Connection) (told : Found) → Finds c d told → FindsOver c d told
finds_over c d told is = finds_so Rises rising c d told is
