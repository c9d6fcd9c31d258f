-- Whatever ends a stream or the connection takes DATA back.
use Rattle.std.proofs.Common.{◌≡◌, ℕ, ◌==◌, ◌&&◌, not, Bool, true, false, cond, List, Option, Some, None, Result, Ok, Err, refl, sym, subst}
use Rattle.std.specs.FinMap.{get}
use Rattle.std.proofs.lemmas.Bool.{false≢true}
use Rattle.hb_base.specs.declared.scope.Scope.{Scope}
use Rattle.hb_base.specs.declared.scope.Scope.TheVariants as scope
use Rattle.hb_frames.specs.Numbers.{data_kind, window_update_kind, protocol_error, flow_control_error}
use Rattle.hb_frames.specs.RawFrame.{RawFrame}
use Rattle.hb_frames.specs.Reading.{asked}
use Rattle.hb_streams.specs.Answers.{answer_of}
use Rattle.hb_streams.specs.declared.fault.StreamFault.{StreamFault}
use Rattle.hb_streams.specs.declared.step.Step.{Step}
use Rattle.hb_streams.specs.declared.step.Step.TheVariants as step
use Rattle.hb_flow.specs.Windows.{Windows}
use Rattle.hb_flow.specs.Flows.{granted, granted_on, closed}
use Rattle.hb_outgoing.specs.Selected.{has_data, is_kept}
use Rattle.hb_owed.specs.Debts.{closed as owed_closed}
use Rattle.hb_owed.specs.declared.due.Due.TheVariants as due
use Rattle.hb_blocks.specs.Assembly.{Progress}
use Rattle.hb_blocks.specs.declared.fault.BlockFault.{BlockFault}
use Rattle.hb_blocks.specs.declared.whole.Whole.{Whole}
use Rattle.hb_conn.specs.Data.{used, padded, continued, data_goes, data_answered, is_of_idle, on_data}
use Rattle.hb_conn.specs.Faults.{faulted, refused, refused_by, broken, aborted, cancelled, withdrawn, released, given_up, is_active}
use Rattle.hb_conn.specs.Frames.{sent, ping_ack}
use Rattle.hb_conn.specs.Glance.{glance_of}
use Rattle.hb_conn.specs.Handling.{does, Answers, HandlesBy}
use Rattle.hb_conn.specs.Headers.{headers_answered, block_told, DoesBlock}
use Rattle.hb_conn.specs.Outcome.{Outcome, outcome, Gives}
use Rattle.hb_conn.specs.Owing.{with_due}
use Rattle.hb_conn.specs.Places.{is_misplaced}
use Rattle.hb_conn.specs.Resets.{peer_reset, reset_answered}
use Rattle.hb_conn.specs.Settings.{applied, SettlesBy, DoesSettings}
use Rattle.hb_conn.specs.Windows.{connection_grows, stream_grows, stream_answered, on_window}
use Rattle.hb_conn.specs.declared.glance.Glance.{Glance}
use Rattle.hb_conn.specs.declared.glance.Glance.TheVariants as glance
use Rattle.hb_conn.specs.declared.found.Found.{Found}
use Rattle.hb_conn.specs.declared.found.Found.TheVariants as found
use Rattle.hb_conn.specs.declared.machine.Core.{Core}
use Rattle.hb_history.specs.TakenBack.{has_data_on, NoneWaitsOn, IsTakenBack, EndsTakeBack, KeptIsRefused, KeptByErrorIsRefused, KeptByFaultIsRefused, OthersMayWait}
use Rattle.hb_history.proofs.Found.{IsStill, Holds, finds_so}
use Rattle.hb_history.proofs.Kept as kept
use Rattle.hb_history.proofs.NoneOf.{none_more, none_filtered, none_kept}
use Rattle.hb_history.proofs.Parts.{calm}
use Rattle.hb_history.proofs.Shown.{KeepsOut, OfOut, out_keeps}

-- a DATA frame of the stream isn't kept
apart_by : (kind some on : Bool) → not (kind && on) ≡ true → ((kind && some) && on) ≡ false
apart_by false some on is = refl
apart_by true false on is = refl
apart_by true true true is = absurd (false≢true is)
apart_by true true false is = refl

none_of : (s : ℕ) (f : RawFrame) → is_kept (Some s) f ≡ true → has_data_on s f ≡ false
none_of s f is = apart_by (f.kind == data_kind) _ (f.stream == s) is

any_by : (kind some : Bool) → not (kind && true) ≡ true → (kind && some) ≡ false
any_by false some is = refl
any_by true some is = absurd (false≢true is)

none_at_all : (f : RawFrame) → is_kept None f ≡ true → has_data f ≡ false
none_at_all f is = any_by (f.kind == data_kind) _ is

plain_on : (a b : Bool) → a ≡ false → (a && b) ≡ false
plain_on false b is = refl
plain_on true b is = absurd (false≢true (sym is))

-- none that waits on a stream stays none with frames that are put or owed
stays : (s : ℕ) → KeepsOut (NoneWaitsOn s)
stays s = record {
  puts = λ w f plain none. none_more (has_data_on s) w.queue f none (plain_on (has_data f) (f.stream == s) plain.0);
  takes_back = λ w k none. none_filtered (has_data_on s) (is_kept (Some k)) w.queue none;
  takes_all_back = λ w none. none_filtered (has_data_on s) (is_kept None) w.queue none;
}

released_by : (s : ℕ) (c : Core) (b : Bool) → NoneWaitsOn s c.out
    → NoneWaitsOn s (cond b c (record c { flow = closed c.flow s; owed = owed_closed c.owed s })).out
released_by s c true none = none
released_by s c false none = none

none_behind : (s : ℕ) (c : Core) → NoneWaitsOn s (withdrawn c s).out
none_behind s c = none_kept (has_data_on s) (is_kept (Some s)) (none_of s) c.out.queue

given_back : (s : ℕ) (c : Core) → NoneWaitsOn s (given_up c s).out
given_back s c =
    let d = withdrawn c s in
    kept.payment_keeps (OfOut (NoneWaitsOn s)) (out_keeps (NoneWaitsOn s) (stays s)) calm (released d s)
    (released_by s d (is_active d.streams s) (none_behind s c))

aborts : (s code : ℕ) (c : Core) → NoneWaitsOn s (aborted c s code).out
unfolding aborted
aborts s code c =
    let keeps = out_keeps (NoneWaitsOn s) (stays s) in
    let d = withdrawn (cancelled c s) s in
    let e = with_due d s (due.Reset code) in
    kept.payment_keeps (OfOut (NoneWaitsOn s)) keeps calm (released e s)
    (released_by s e (is_active e.streams s)
    (kept.due_keeps (OfOut (NoneWaitsOn s)) keeps calm d s (due.Reset code) (none_behind s (cancelled c s))))

abbrev OutcomeTakes : Outcome → Type 0
OutcomeTakes o = IsTakenBack o.found o.core.out

given : (o : Outcome) (new : Core) (told : Found) → OutcomeTakes o → Gives o new told → IsTakenBack told new.out
given o new told takes is =
    subst (λ t. IsTakenBack t new.out) (sym is.1) (subst (λ (c : Core). IsTakenBack o.found c.out) (sym is.0) takes)

either : (b : Bool) (o p : Outcome) → OutcomeTakes o → OutcomeTakes p → OutcomeTakes (cond b o p)
either true o p first second = first
either false o p first second = second

fault : (c : Core) (code : ℕ) → OutcomeTakes (faulted c code)
unfolding faulted
fault c code = none_more has_data _ _ (none_kept has_data (is_kept None) none_at_all c.out.queue) refl

breaks : (c : Core) (s code : ℕ) → OutcomeTakes (broken c s code)
breaks c s code = aborts s code c

refusal : (c : Core) (why : StreamFault) → OutcomeTakes (refused c why)
refusal c why = by why.scope
  where
    by : (reach : Scope) → OutcomeTakes (refused_by c reach why.code)
    by scope.Connection = fault c why.code
    by (scope.Stream s) = breaks c s why.code

-- frame by frame
data_by : (c : Core) (s k size : ℕ) (end : Bool) (o : Option Windows) → OutcomeTakes (data_goes c s k size end o)
data_by c s k size end None = tt
data_by c s k size end (Some w) =
    either _ (broken c s flow_control_error) (outcome (continued (padded c s k size) s end) (found.Chunk s end))
    (breaks c s flow_control_error) tt

data_answers : (c : Core) (s k size : ℕ) (end : Bool) (r : Result Step StreamFault) → OutcomeTakes (data_answered c s k size end r)
data_answers c s k size end (Ok step.Goes) = data_by c s k size end (get c.flow.streams s)
data_answers c s k size end (Ok step.New) = tt
data_answers c s k size end (Ok step.Ignored) = tt
data_answers c s k size end (Err why) = refusal c why

data_takes : (c : Core) (s k size : ℕ) (end : Bool) → OutcomeTakes (on_data c s k size end)
data_takes c s k size end =
    let r = answer_of c.streams data_kind s in
    let goes = data_answered (used c k) s k size end r in
    either (is_of_idle r) (faulted c protocol_error) (cond _ (faulted c flow_control_error) goes) (fault c protocol_error)
    (either _ (faulted c flow_control_error) goes (fault c flow_control_error) (data_answers (used c k) s k size end r))

reset_answers : (c : Core) (s code : ℕ) (r : Result Step StreamFault) → OutcomeTakes (reset_answered c s code r)
reset_answers c s code (Ok step.Goes) = given_back s (peer_reset c s)
reset_answers c s code (Ok step.New) = tt
reset_answers c s code (Ok step.Ignored) = tt
reset_answers c s code (Err why) = refusal c why

window_grows : (c : Core) (s k : ℕ) (o : Option Windows) → OutcomeTakes (stream_grows c s k o)
window_grows c s k None = tt
window_grows c s k (Some w) =
    either _ (broken c s flow_control_error) (outcome (record c { flow = granted_on c.flow s k }) found.Silent)
    (breaks c s flow_control_error) tt

window_answers : (c : Core) (s k : ℕ) (r : Result Step StreamFault) → OutcomeTakes (stream_answered c s k r)
window_answers c s k (Ok step.Goes) =
    either (k == 0) (broken c s protocol_error) (stream_grows c s k (get c.flow.streams s)) (breaks c s protocol_error)
    (window_grows c s k (get c.flow.streams s))
window_answers c s k (Ok step.New) = tt
window_answers c s k (Ok step.Ignored) = tt
window_answers c s k (Err why) = refusal c why

window_takes : (c : Core) (s k : ℕ) → OutcomeTakes (on_window c s k)
window_takes c s k =
    let r = answer_of c.streams window_update_kind s in
    either (s == 0) (connection_grows c k) (stream_answered c s k r)
    (either _ (faulted c flow_control_error) (outcome (record c { flow = granted c.flow k }) found.Silent) (fault c flow_control_error) tt)
    (window_answers c s k r)

headers_answers : (c : Core) (s : ℕ) (end : Bool) (r : Result Step StreamFault) → OutcomeTakes (headers_answered c s end r)
headers_answers c s end (Ok step.New) = tt
headers_answers c s end (Ok step.Goes) = tt
headers_answers c s end (Ok step.Ignored) = tt
headers_answers c s end (Err why) = refusal _ why

block_tells : (c : Core) (told : Result (Option Whole) BlockFault) → OutcomeTakes (block_told c told)
block_tells c (Ok None) = tt
block_tells c (Ok (Some whole)) = headers_answers c whole.stream whole.end_stream _
block_tells c (Err why) = fault c _

block_takes : (progress : Progress) (c new : Core) (told : Found) → DoesBlock progress c new told → IsTakenBack told new.out
block_takes progress c new told does = given _ new told (block_tells (record c { blocks = does.0 }) does.1) does.3

applied_takes : (c : Core) (fits : Bool) → OutcomeTakes (applied c fits)
applied_takes c true = tt
applied_takes c false = fault c _

settings_by : (b : Bool) (c : Core) (pairs : List (ℕ × ℕ)) (new : Core) (told : Found) → SettlesBy b c pairs new told
    → IsTakenBack told new.out
settings_by true c pairs new told is = given _ new told (fault c _) is
settings_by false c pairs new told is = given _ new told (applied_takes is.0 is.1) is.3

settings_take : (ack : Bool) (c : Core) (payload : List ℕ) (new : Core) (told : Found) → DoesSettings ack c payload new told
    → IsTakenBack told new.out
settings_take true c payload new told is = given (outcome c found.Silent) new told tt is
settings_take false c payload new told is = settings_by _ c _ new told is

answers_take : (c : Core) (g : Glance) (bytes : List ℕ) (new : Core) (told : Found) → Answers c g bytes new told
    → IsTakenBack told new.out
answers_take c glance.Nothing bytes new told is = given _ new told tt is
answers_take c (glance.Data s k end) bytes new told is = given _ new told (data_takes c s k _ end) is
answers_take c (glance.Headers s end whole) bytes new told is = block_takes _ c new told is
answers_take c (glance.Reset s code) bytes new told is = given _ new told (reset_answers c s code _) is
answers_take c (glance.Settings ack) bytes new told is = settings_take ack c bytes new told is
answers_take c (glance.Ping ack value) bytes new told is =
    given (does c (glance.Ping ack value) bytes) new told
    (either ack (outcome c found.Silent) (outcome (sent c (ping_ack value)) found.Silent) tt tt) is
answers_take c (glance.GoAway last) bytes new told is = given _ new told tt is
answers_take c (glance.Window s k) bytes new told is = given _ new told (window_takes c s k) is
answers_take c (glance.Continuation s whole) bytes new told is = block_takes _ c new told is
answers_take c glance.Other bytes new told is = given _ new told tt is
answers_take c (glance.Refused code row kind flags) bytes new told is = given _ new told (fault c code) is

handles_take : (b : Bool) (c : Core) (g : Glance) (bytes : List ℕ) (new : Core) (told : Found) → HandlesBy b c g bytes new told
    → IsTakenBack told new.out
handles_take true c g bytes new told is = given _ new told (fault c _) is
handles_take false c g bytes new told is = answers_take c g bytes new told is

-- where nothing is told of a frame there is nothing to show
still : (told : Found) (c : Core) → IsStill told → IsTakenBack told c.out
still found.Silent c is = tt
still (found.Ended s) c is = tt
still (found.Opened s end) c is = absurd is
still (found.Chunk s end) c is = absurd is
still (found.Reset s code) c is = absurd is
still (found.Broken s code) c is = absurd is
still (found.GoneAway last) c is = absurd is
still (found.Fault code) c is = absurd is

takes : Holds (λ c new told. IsTakenBack told new.out)
takes = record {
  same = λ c new told quiet is. still told new quiet;
  on = λ c mid new told first then. then;
  handled = λ r c new told is. handles_take (is_misplaced c (glance_of r)) c (glance_of r) (asked r).last new told is;
  faults = λ c new code told is. given _ new told (fault c code) is;
}

pub ends_take_back : EndsTakeBack
ends_take_back c d told finds = finds_so (λ c new told. IsTakenBack told new.out) takes c d told finds

pub kept_is_refused : KeptIsRefused
kept_is_refused code none = absurd (false≢true (sym none.0))

pub kept_by_error : KeptByErrorIsRefused
kept_by_error code none = absurd (false≢true (sym none.0))

pub kept_by_fault : KeptByFaultIsRefused
kept_by_fault code none = absurd (false≢true (sym none.0))

pub others_may_wait : OthersMayWait
others_may_wait code = (refl, tt)
