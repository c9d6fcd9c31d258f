-- Which sides of streams acts and frames leave open.
use Rattle.std.proofs.Common.{◌≡◌, inl, inr, ℕ, ◌==◌, not, Bool, true, false, cond, List, [], ◌∷◌, Option, Some, None, Result, Ok, Err, refl, ap, sym, ◌∙◌, subst}
use Rattle.std.specs.FinMap.{get}
use Rattle.std.proofs.lemmas.Bool.{cond_both}
use Rattle.hb_base.specs.declared.scope.Scope.{Scope}
use Rattle.hb_base.specs.declared.scope.Scope.TheVariants as scope
use Rattle.hb_frames.specs.Numbers.{data_kind, headers_kind, rst_stream_kind, window_update_kind, protocol_error, flow_control_error}
use Rattle.hb_frames.specs.Numbers.{max_concurrent_streams, initial_window_size, max_frame_size, refused_stream}
use Rattle.hb_frames.specs.Reading.{asked}
use Rattle.hb_streams.specs.Answers.{answer_of}
use Rattle.hb_streams.specs.Moves.{after, after_answer, receives, sends_end}
use Rattle.hb_streams.specs.Moves.{refused as stream_refused}
use Rattle.hb_streams.specs.Sides.{both_open}
use Rattle.hb_streams.specs.States.{States}
use Rattle.hb_streams.specs.declared.fault.StreamFault.{StreamFault}
use Rattle.hb_streams.specs.declared.sides.Sides.{Sides}
use Rattle.hb_streams.specs.declared.step.Step.{Step}
use Rattle.hb_streams.specs.declared.step.Step.TheVariants as step
use Rattle.hb_flow.specs.Windows.{Windows}
use Rattle.hb_flow.specs.Flows.{granted, granted_on, paid_on, due_on}
use Rattle.hb_owed.specs.declared.due.Due.{Due}
use Rattle.hb_owed.specs.declared.due.Due.TheVariants as due
use Rattle.hb_blocks.specs.Assembly.{Progress}
use Rattle.hb_blocks.specs.declared.fault.BlockFault.{BlockFault}
use Rattle.hb_blocks.specs.declared.whole.Whole.{Whole}
use Rattle.hb_conn.specs.Connection.{Connection, core_of}
use Rattle.hb_conn.specs.Data.{updated, credited_on, used, padded, continued, data_goes, data_answered, is_of_idle, on_data}
use Rattle.hb_conn.specs.Ending.{own_ended}
use Rattle.hb_conn.specs.Faults.{faulted, refused, refused_by, broken, aborted, cancelled, withdrawn, released, given_up, is_active}
use Rattle.hb_conn.specs.Frames.{sent, ping_ack}
use Rattle.hb_conn.specs.Glance.{glance_of}
use Rattle.hb_conn.specs.Handling.{does, Answers, HandlesBy}
use Rattle.hb_conn.specs.Headers.{headed, headers_answered, block_told, DoesBlock}
use Rattle.hb_conn.specs.Outcome.{Outcome, outcome, Gives}
use Rattle.hb_conn.specs.Owing.{with_due, with_update, owed_paid}
use Rattle.hb_conn.specs.Places.{is_misplaced}
use Rattle.hb_conn.specs.Resets.{peer_reset, reset_answered}
use Rattle.hb_conn.specs.Settings.{noted, Resized, AppliesBy, AppliesAll, Then, applied, SettlesBy, DoesSettings}
use Rattle.hb_conn.specs.Windows.{connection_grows, stream_grows, stream_answered, on_window}
use Rattle.hb_conn.specs.declared.found.Found.{Found}
use Rattle.hb_conn.specs.declared.found.Found.TheVariants as found
use Rattle.hb_conn.specs.declared.glance.Glance.{Glance}
use Rattle.hb_conn.specs.declared.glance.Glance.TheVariants as glance
use Rattle.hb_conn.specs.declared.machine.Core.{Core}
use Rattle.hb_history.proofs.CanSend.{wrote_keeps, credited_keeps, put_keeps}
use Rattle.hb_history.proofs.Found.{IsStill, Holds, finds_so}
use Rattle.hb_history.proofs.Kept.{due_streams}
use Rattle.hb_history.proofs.Lasting.{paid_parts}
use Rattle.hb_history.proofs.Moved.{reset_closes}
use Rattle.hb_kept.specs.Sides.{neither, own_ends, peer_ends, Becomes, WriteLeavesAll, PutLeavesAll, UseLeavesAll, AnswerEndsSide, EndEndsSide, ResetEndsBoth, SidesBehind, FindsSides}
use Rattle.hb_kept.proofs.SidesAt.{sides_at, Changes, Others, All, all_same, at_same, closes, resets, begins, inactive_neither, own_side_ends, peer_side_ends}

-- what leaves the streams

pub paid_streams : (c : Core) → (owed_paid c).streams ≡ c.streams
paid_streams c = ap (λ p. p.0) (paid_parts c)

pub released_streams : (c : Core) (s : ℕ) → (released c s).streams ≡ c.streams
released_streams c s = cond_both (is_active c.streams s) c _ (λ (x : Core). x.streams ≡ c.streams) (λ is. refl) (λ is. refl)

update_streams : (c : Core) (s : ℕ) (o : Option ℕ) → (with_update c s o).streams ≡ c.streams
update_streams c s None = refl
update_streams c s (Some n) = due_streams c s (due.Credit n)

pub updated_streams : (c : Core) (o : Option ℕ) → (updated c o).streams ≡ c.streams
updated_streams c None = refl
updated_streams c (Some n) = refl

pub credited_streams : (c : Core) (s : ℕ) → (credited_on c s).streams ≡ c.streams
credited_streams c s = update_streams (record c { flow = paid_on c.flow s }) s (due_on c.flow s)

pub write_leaves_all : WriteLeavesAll
write_leaves_all c n s = ap (λ p. sides_at p.0 s) (wrote_keeps c n)

pub put_leaves_all : PutLeavesAll
put_leaves_all c stream bytes s = ap (λ p. sides_at p.0 s) (put_keeps c stream bytes)

pub use_leaves_all : UseLeavesAll
use_leaves_all c stream n s = ap (λ p. sides_at p.0 s) (credited_keeps c stream n)

-- what ends sides

changes_to : (n : ℕ) (now : Sides) (old mid new : States) → new ≡ mid → Changes n now old mid → Changes n now old new
changes_to n now old mid new is changes = subst (λ (s : States). Changes n now old s) (sym is) changes

ended_changes : (c : Core) (s : ℕ) → Changes s (own_ends true (sides_at c.streams s)) c.streams (own_ended c s).streams
ended_changes c s =
    changes_to s _ c.streams (after c.streams (sends_end s)) (own_ended c s).streams
    (released_streams (record c { streams = after c.streams (sends_end s) }) s) (own_side_ends c.streams s)

-- behind a frame of the stream that is put or owed
due_ends : (c : Core) (s : ℕ) (d : Due) → Changes s (own_ends true (sides_at c.streams s)) c.streams (own_ended (with_due c s d) s).streams
due_ends c s d =
    subst (λ (t : States). Changes s (own_ends true (sides_at t s)) t (own_ended (with_due c s d) s).streams) (due_streams c s d)
    (ended_changes (with_due c s d) s)

becomes : (n : ℕ) (now : Sides) (c d : Connection) → Changes n now (core_of c).streams (core_of d).streams → Becomes n now c d
becomes n now c d changes = record { here = changes.here; others = changes.others }

status_by : (c : Core) (s : ℕ) (d : Due) (end : Bool)
    → Changes s (own_ends end (sides_at c.streams s)) c.streams (cond end (own_ended (with_due c s d) s) (with_due c s d)).streams
status_by c s d true = due_ends c s d
status_by c s d false =
    let same = due_streams c s d in
    record { here = ap (λ (t : States). sides_at t s) same; others = λ m apart. ap (λ (t : States). sides_at t m) same }

pub answer_ends_side : AnswerEndsSide
answer_ends_side c s status =
    let changes = status_by (core_of c) s (due.Status status) status.end in
    record { here = changes.here; others = changes.others }

pub end_ends_side : EndEndsSide
end_ends_side c s =
    let changes = due_ends (core_of c) s due.End in
    record { here = changes.here; others = changes.others }

cancelled_changes : (c : Core) (s : ℕ) → Changes s neither c.streams (cancelled c s).streams
cancelled_changes c s =
    cond_both (is_active c.streams s) _ c (λ (x : Core). Changes s neither c.streams x.streams) (λ is. resets c.streams s)
    (λ is. record { here = inactive_neither c.streams s is; others = λ m apart. refl })

aborted_streams : (c : Core) (s code : ℕ) → (aborted c s code).streams ≡ (cancelled c s).streams
unfolding aborted
aborted_streams c s code =
    paid_streams _ ∙ released_streams _ s ∙ due_streams (withdrawn (cancelled c s) s) s (due.Reset code)

aborted_changes : (c : Core) (s code : ℕ) → Changes s neither c.streams (aborted c s code).streams
aborted_changes c s code =
    changes_to s neither c.streams (cancelled c s).streams (aborted c s code).streams (aborted_streams c s code) (cancelled_changes c s)

pub reset_ends_both : ResetEndsBoth
reset_ends_both c s code =
    let changes = aborted_changes (core_of c) s code in
    record { here = changes.here; others = changes.others }

-- what is found

abbrev pub On : Found → States → States → Type 0
On (found.Opened s end) old new = Others s old new
On (found.Chunk s end) old new = Changes s (peer_ends end (sides_at old s)) old new
On (found.Reset s code) old new = Changes s neither old new
On (found.Broken s code) old new = Changes s neither old new
On (found.Fault code) old new = Unit {0}
On told old new = All old new

-- behind what left all sides
pub on_from : (told : Found) (old mid new : States) → All old mid → On told mid new → On told old new
on_from (found.Opened s end) old mid new first then = λ m apart. then m apart ∙ first m
on_from (found.Chunk s end) old mid new first then = record {
  here = then.here ∙ ap (peer_ends end) (first s);
  others = λ m apart. then.others m apart ∙ first m;
}
on_from (found.Reset s code) old mid new first then = record { here = then.here; others = λ m apart. then.others m apart ∙ first m }
on_from (found.Broken s code) old mid new first then = record { here = then.here; others = λ m apart. then.others m apart ∙ first m }
on_from (found.Fault code) old mid new first then = tt
on_from told old mid new first then = λ m. then m ∙ first m

abbrev OutcomeOn : States → Outcome → Type 0
OutcomeOn old o = On o.found old o.core.streams

given : (old : States) (o : Outcome) (new : Core) (told : Found) → OutcomeOn old o → Gives o new told → On told old new.streams
given old o new told so is =
    subst (λ t. On t old new.streams) (sym is.1) (subst (λ (c : Core). On o.found old c.streams) (sym is.0) so)

either : (old : States) (b : Bool) (o p : Outcome) → OutcomeOn old o → OutcomeOn old p → OutcomeOn old (cond b o p)
either old true o p first second = first
either old false o p first second = second

fault : (old : States) (c : Core) (code : ℕ) → OutcomeOn old (faulted c code)
unfolding faulted
fault old c code = tt

breaks : (old : States) (c : Core) (s code : ℕ) → All old c.streams → OutcomeOn old (broken c s code)
breaks old c s code same = on_from (found.Broken s code) old c.streams (aborted c s code).streams same (aborted_changes c s code)

refusal : (old : States) (c : Core) (why : StreamFault) → All old c.streams → OutcomeOn old (refused c why)
refusal old c why same = by why.scope
  where
    by : (reach : Scope) → OutcomeOn old (refused_by c reach why.code)
    by scope.Connection = fault old c why.code
    by (scope.Stream s) = breaks old c s why.code same

nothing : (s : States) → All s s
nothing s m = refl

-- DATA

continued_by : (c : Core) (s : ℕ) (end : Bool) → answer_of c.streams data_kind s ≡ Ok step.Goes
    → Changes s (peer_ends end (sides_at c.streams s)) c.streams (continued c s end).streams
continued_by c s true is =
    changes_to s _ c.streams _ (continued c s true).streams
    (released_streams (record c { streams = after c.streams (receives data_kind s true) }) s
    ∙ ap (after_answer c.streams data_kind s true) is)
    (peer_side_ends c.streams s)
continued_by c s false is =
    let same = credited_streams c s in
    record { here = ap (λ (t : States). sides_at t s) same; others = λ m apart. ap (λ (t : States). sides_at t m) same }

data_by : (c : Core) (s k size : ℕ) (end : Bool) (o : Option Windows) → answer_of c.streams data_kind s ≡ Ok step.Goes
    → OutcomeOn c.streams (data_goes c s k size end o)
data_by c s k size end None is = continued_by c s end is
data_by c s k size end (Some w) is =
    either c.streams _ (broken c s flow_control_error) (outcome (continued (padded c s k size) s end) (found.Chunk s end))
    (breaks c.streams c s flow_control_error (nothing c.streams)) (continued_by (padded c s k size) s end is)

data_answers : (c : Core) (s k size : ℕ) (end : Bool) (r : Result Step StreamFault) → answer_of c.streams data_kind s ≡ r
    → OutcomeOn c.streams (data_answered c s k size end r)
data_answers c s k size end (Ok step.Goes) is = data_by c s k size end (get c.flow.streams s) is
data_answers c s k size end (Ok step.New) is = nothing c.streams
data_answers c s k size end (Ok step.Ignored) is = nothing c.streams
data_answers c s k size end (Err why) is = refusal c.streams c why (nothing c.streams)

data_on : (c : Core) (s k size : ℕ) (end : Bool) → OutcomeOn c.streams (on_data c s k size end)
data_on c s k size end =
    let r = answer_of c.streams data_kind s in
    let same : (used c k).streams ≡ c.streams = updated_streams _ _ in
    let goes = data_answered (used c k) s k size end r in
    let so : OutcomeOn c.streams goes =
    subst (λ (t : States). OutcomeOn t goes) same
    (data_answers (used c k) s k size end r (ap (λ (t : States). answer_of t data_kind s) same)) in
    either c.streams (is_of_idle r) (faulted c protocol_error) (cond _ (faulted c flow_control_error) goes)
    (fault c.streams c protocol_error)
    (either c.streams _ (faulted c flow_control_error) goes (fault c.streams c flow_control_error) so)

-- RST_STREAM

reset_answers : (c : Core) (s code : ℕ) (r : Result Step StreamFault) → answer_of c.streams rst_stream_kind s ≡ r
    → OutcomeOn c.streams (reset_answered c s code r)
reset_answers c s code (Ok step.Goes) is =
    changes_to s neither c.streams _ (given_up (peer_reset c s) s).streams
    (paid_streams _ ∙ released_streams (withdrawn (peer_reset c s) s) s ∙ reset_closes s c.streams false is)
    (closes c.streams s)
reset_answers c s code (Ok step.New) is = nothing c.streams
reset_answers c s code (Ok step.Ignored) is = nothing c.streams
reset_answers c s code (Err why) is = refusal c.streams c why (nothing c.streams)

-- WINDOW_UPDATE

window_grows : (c : Core) (s k : ℕ) (o : Option Windows) → OutcomeOn c.streams (stream_grows c s k o)
window_grows c s k None = nothing c.streams
window_grows c s k (Some w) =
    either c.streams _ (broken c s flow_control_error) (outcome (record c { flow = granted_on c.flow s k }) found.Silent)
    (breaks c.streams c s flow_control_error (nothing c.streams)) (nothing c.streams)

window_answers : (c : Core) (s k : ℕ) (r : Result Step StreamFault) → OutcomeOn c.streams (stream_answered c s k r)
window_answers c s k (Ok step.Goes) =
    either c.streams (k == 0) (broken c s protocol_error) (stream_grows c s k (get c.flow.streams s))
    (breaks c.streams c s protocol_error (nothing c.streams)) (window_grows c s k (get c.flow.streams s))
window_answers c s k (Ok step.New) = nothing c.streams
window_answers c s k (Ok step.Ignored) = nothing c.streams
window_answers c s k (Err why) = refusal c.streams c why (nothing c.streams)

window_on : (c : Core) (s k : ℕ) → OutcomeOn c.streams (on_window c s k)
window_on c s k =
    let r = answer_of c.streams window_update_kind s in
    either c.streams (s == 0) (connection_grows c k) (stream_answered c s k r)
    (either c.streams _ (faulted c flow_control_error) (outcome (record c { flow = granted c.flow k }) found.Silent)
    (fault c.streams c flow_control_error) (nothing c.streams))
    (window_answers c s k r)

-- HEADERS

headed_by : (old : States) (s : ℕ) (end : Bool) → Others s old (after_answer old headers_kind s end (Ok step.Goes))
headed_by old s true = (peer_side_ends old s).others
headed_by old s false = λ m apart. refl

refused_by_stream : (old : States) (s : ℕ) (b : Bool) → All old (cond b (stream_refused old s) old)
refused_by_stream old s true = λ m. at_same old (stream_refused old s) m refl
refused_by_stream old s false = λ m. refl

headers_on : (c : Core) (s : ℕ) (end : Bool) (r : Result Step StreamFault) → answer_of c.streams headers_kind s ≡ r
    → OutcomeOn c.streams (headers_answered c s end r)
headers_on c s end (Ok step.New) is =
    let becomes = ap (after_answer c.streams headers_kind s end) is in
    subst (λ (t : States). Others s c.streams t) (sym becomes) (begins c.streams s (record both_open { peer = not end })).others
headers_on c s end (Ok step.Goes) is =
    let becomes = released_streams (headed c s end) s ∙ ap (after_answer c.streams headers_kind s end) is in
    subst (λ (t : States). Others s c.streams t) (sym becomes) (headed_by c.streams s end)
headers_on c s end (Ok step.Ignored) is = nothing c.streams
headers_on c s end (Err why) is =
    let becomes = ap (after_answer c.streams headers_kind s end) is in
    refusal c.streams (headed c s end) why
    (subst (λ (t : States). All c.streams t) (sym becomes) (refused_by_stream c.streams s (why.code == refused_stream)))

block_on : (c : Core) (told : Result (Option Whole) BlockFault) → OutcomeOn c.streams (block_told c told)
block_on c (Ok None) = nothing c.streams
block_on c (Ok (Some whole)) =
    headers_on c whole.stream whole.end_stream (answer_of c.streams headers_kind whole.stream) refl
block_on c (Err why) = fault c.streams c _

does_block : (progress : Progress) (c new : Core) (told : Found) → DoesBlock progress c new told → On told c.streams new.streams
does_block progress c new told does =
    given c.streams (block_told (record c { blocks = does.0 }) does.1) new told (block_on (record c { blocks = does.0 }) does.1) does.3

-- SETTINGS

noted_streams : (c : Core) (s : ℕ × ℕ) → (noted c s).streams ≡ c.streams
noted_streams c s = by (s.0 == max_concurrent_streams) (s.0 == max_frame_size)
  where
    by : (a b : Bool) → (cond a (record c { peer = record c.peer { streams = s.1 } })
        (cond b (record c { peer = record c.peer { frame_size = s.1 } }) c)).streams ≡ c.streams
    by true b = refl
    by false true = refl
    by false false = refl

resized_streams : (c new : Core) (k : ℕ) (fits : Bool) → Resized c k new fits → new.streams ≡ c.streams
resized_streams c new k true is = ap (λ (x : Core). x.streams) is.2
resized_streams c new k false (inl large) = ap (λ (x : Core). x.streams) large.1
resized_streams c new k false (inr over) = ap (λ (x : Core). x.streams) over.3

one_streams : (b : Bool) (c new : Core) (s : ℕ × ℕ) (fits : Bool) → AppliesBy b c s new fits → new.streams ≡ c.streams
one_streams true c new s fits is = resized_streams c new s.1 fits is
one_streams false c new s fits is = ap (λ (x : Core). x.streams) is.0 ∙ noted_streams c s

all_streams : (pairs : List (ℕ × ℕ)) (c new : Core) (fits : Bool) → AppliesAll c pairs new fits → new.streams ≡ c.streams
all_streams [] c new fits is = ap (λ (x : Core). x.streams) is.0
all_streams (s ∷ more) c new fits is =
    by is.1 (all_streams more is.0 new fits) is.3 ∙ one_streams (s.0 == initial_window_size) c is.0 s is.1 is.2
  where
    by : (ok : Bool) → (AppliesAll is.0 more new fits → new.streams ≡ is.0.streams)
        → Then ok (AppliesAll is.0 more new fits) ((new ≡ is.0) × (fits ≡ false)) → new.streams ≡ is.0.streams
    by true later rest = later rest
    by false later rest = ap (λ (x : Core). x.streams) rest.0

applied_on : (old : States) (c : Core) (fits : Bool) → All old c.streams → OutcomeOn old (applied c fits)
applied_on old c true same = same
applied_on old c false same = fault old c _

settings_by : (b : Bool) (c : Core) (pairs : List (ℕ × ℕ)) (new : Core) (told : Found) → SettlesBy b c pairs new told
    → On told c.streams new.streams
settings_by true c pairs new told is = given c.streams _ new told (fault c.streams c _) is
settings_by false c pairs new told is =
    let same = all_streams pairs c is.0 is.1 is.2 in
    given c.streams _ new told (applied_on c.streams is.0 is.1 (all_same c.streams is.0.streams same)) is.3

settings_on : (ack : Bool) (c : Core) (payload : List ℕ) (new : Core) (told : Found) → DoesSettings ack c payload new told
    → On told c.streams new.streams
settings_on true c payload new told is = given c.streams (outcome c found.Silent) new told (nothing c.streams) is
settings_on false c payload new told is = settings_by _ c _ new told is

-- any frame

answers_on : (c : Core) (g : Glance) (bytes : List ℕ) (new : Core) (told : Found) → Answers c g bytes new told
    → On told c.streams new.streams
answers_on c glance.Nothing bytes new told is = given c.streams _ new told (nothing c.streams) is
answers_on c (glance.Data s k end) bytes new told is = given c.streams _ new told (data_on c s k _ end) is
answers_on c (glance.Headers s end whole) bytes new told is = does_block _ c new told is
answers_on c (glance.Reset s code) bytes new told is = given c.streams _ new told (reset_answers c s code _ refl) is
answers_on c (glance.Settings ack) bytes new told is = settings_on ack c bytes new told is
answers_on c (glance.Ping ack value) bytes new told is =
    given c.streams (does c (glance.Ping ack value) bytes) new told
    (either c.streams ack (outcome c found.Silent) (outcome (sent c (ping_ack value)) found.Silent) (nothing c.streams) (nothing c.streams))
    is
answers_on c (glance.GoAway last) bytes new told is = given c.streams _ new told (nothing c.streams) is
answers_on c (glance.Window s k) bytes new told is = given c.streams _ new told (window_on c s k) is
answers_on c (glance.Continuation s whole) bytes new told is = does_block _ c new told is
answers_on c glance.Other bytes new told is = given c.streams _ new told (nothing c.streams) is
answers_on c (glance.Refused code row kind flags) bytes new told is = given c.streams _ new told (fault c.streams c code) is

pub handles_on : (b : Bool) (c : Core) (g : Glance) (bytes : List ℕ) (new : Core) (told : Found) → HandlesBy b c g bytes new told
    → On told c.streams new.streams
handles_on true c g bytes new told is = given c.streams _ new told (fault c.streams c _) is
handles_on false c g bytes new told is = answers_on c g bytes new told is

still_on : (told : Found) (s : States) → IsStill told → On told s s
still_on found.Silent s is = nothing s
still_on (found.Ended t) s is = nothing s
still_on (found.Opened t end) s is = absurd is
still_on (found.Chunk t end) s is = absurd is
still_on (found.Reset t code) s is = absurd is
still_on (found.Broken t code) s is = absurd is
still_on (found.GoneAway last) s is = absurd is
still_on (found.Fault code) s is = absurd is

abbrev Steps : Core → Core → Found → Type 0
Steps c new told = On told c.streams new.streams

steps : Holds Steps
steps = record {
  same = λ c new told quiet is. subst (λ (x : Core). On told c.streams x.streams) (sym is) (still_on told c.streams quiet);
  on = λ c mid new told first then. on_from told c.streams mid.streams new.streams first then;
  handled = λ r c new told is. handles_on (is_misplaced c (glance_of r)) c (glance_of r) (asked r).last new told is;
  faults = λ c new code told is. given c.streams (faulted c code) new told (fault c.streams c code) is;
}

by_told : (told : Found) (c d : Connection) → On told (core_of c).streams (core_of d).streams → SidesBehind told c d
by_told (found.Opened s end) c d on = on
by_told (found.Chunk s end) c d on = becomes s (peer_ends end (sides_at (core_of c).streams s)) c d on
by_told (found.Reset s code) c d on = becomes s neither c d on
by_told (found.Broken s code) c d on = becomes s neither c d on
by_told (found.Fault code) c d on = tt
by_told found.Silent c d on = on
by_told (found.Ended s) c d on = on
by_told (found.GoneAway last) c d on = on

pub finds_sides : FindsSides
finds_sides c d told finds = by_told told c d (finds_so Steps steps c d told finds)
