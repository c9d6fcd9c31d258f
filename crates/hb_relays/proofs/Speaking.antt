-- Behind headers that come on a stream this end's side of it is open where it was.
use Rattle.std.proofs.Common.{◌≡◌, ℕ, ◌==◌, not, Bool, true, false, cond, List, Option, Some, None, Result, Ok, Err, refl, ap, sym, ◌∙◌, subst}
use Rattle.std.specs.FinMap.{get}
use Rattle.hb_base.specs.declared.scope.Scope.{Scope}
use Rattle.hb_base.specs.declared.scope.Scope.TheVariants as scope
use Rattle.hb_frames.specs.Numbers.{data_kind, headers_kind, window_update_kind, protocol_error, flow_control_error}
use Rattle.hb_frames.specs.Reading.{asked}
use Rattle.hb_streams.specs.Answers.{answer_of}
use Rattle.hb_streams.specs.Moves.{after_answer}
use Rattle.hb_streams.specs.Sides.{both_open}
use Rattle.hb_streams.specs.States.{States}
use Rattle.hb_streams.specs.declared.fault.StreamFault.{StreamFault}
use Rattle.hb_streams.specs.declared.sides.Sides.{Sides}
use Rattle.hb_streams.specs.declared.step.Step.{Step}
use Rattle.hb_streams.specs.declared.step.Step.TheVariants as step
use Rattle.hb_flow.specs.Windows.{Windows}
use Rattle.hb_flow.specs.Flows.{granted, granted_on}
use Rattle.hb_blocks.specs.Assembly.{Progress}
use Rattle.hb_blocks.specs.declared.fault.BlockFault.{BlockFault}
use Rattle.hb_blocks.specs.declared.whole.Whole.{Whole}
use Rattle.hb_conn.specs.Connection.{Connection, Finds}
use Rattle.hb_conn.specs.Data.{used, padded, continued, data_goes, data_answered, is_of_idle, on_data}
use Rattle.hb_conn.specs.Faults.{faulted, refused, refused_by, broken}
use Rattle.hb_conn.specs.Frames.{sent, ping_ack}
use Rattle.hb_conn.specs.Glance.{glance_of}
use Rattle.hb_conn.specs.Handling.{does, Answers, HandlesBy}
use Rattle.hb_conn.specs.Headers.{headed, headers_answered, block_told, DoesBlock}
use Rattle.hb_conn.specs.Observed.{own_side_open}
use Rattle.hb_conn.specs.Outcome.{Outcome, outcome, Gives}
use Rattle.hb_conn.specs.Places.{is_misplaced}
use Rattle.hb_conn.specs.Resets.{reset_answered}
use Rattle.hb_conn.specs.Settings.{applied, SettlesBy, DoesSettings}
use Rattle.hb_conn.specs.Windows.{connection_grows, stream_grows, stream_answered, on_window}
use Rattle.hb_conn.specs.declared.found.Found.{Found}
use Rattle.hb_conn.specs.declared.found.Found.TheVariants as found
use Rattle.hb_conn.specs.declared.glance.Glance.{Glance}
use Rattle.hb_conn.specs.declared.glance.Glance.TheVariants as glance
use Rattle.hb_conn.specs.declared.machine.Core.{Core}
use Rattle.hb_history.proofs.Found.{IsStill, Holds, finds_so}
use Rattle.hb_kept.proofs.Sides.{On, handles_on, released_streams}
use Rattle.hb_kept.proofs.SidesAt.{sides_at, All, all_same, begins, peer_side_ends}

-- A FRAME

abbrev IsSpeaking : Found → States → States → Type 0
IsSpeaking (found.Opened s end) old new = (sides_at old s).own ≡ true → (sides_at new s).own ≡ true
IsSpeaking _ old new = Unit {0}

module _ (old : States) where
  abbrev OutcomeSpeaks : Outcome → Type 0
  OutcomeSpeaks o = IsSpeaking o.found old o.core.streams

  given : (o : Outcome) (new : Core) (told : Found) → OutcomeSpeaks o → Gives o new told → IsSpeaking told old new.streams
  given o new told so is =
      subst (λ t. IsSpeaking t old new.streams) (sym is.1) (subst (λ (c : Core). IsSpeaking o.found old c.streams) (sym is.0) so)

  either : (b : Bool) (o p : Outcome) → OutcomeSpeaks o → OutcomeSpeaks p → OutcomeSpeaks (cond b o p)
  either true o p first second = first
  either false o p first second = second

  fault : (c : Core) (code : ℕ) → OutcomeSpeaks (faulted c code)
  unfolding faulted
  fault c code = tt

  refusal : (c : Core) (why : StreamFault) → OutcomeSpeaks (refused c why)
  refusal c why = by why.scope
    where
      by : (reach : Scope) → OutcomeSpeaks (refused_by c reach why.code)
      by scope.Connection = fault c why.code
      by (scope.Stream s) = tt

headers_speak : (c : Core) (s : ℕ) (end : Bool) (r : Result Step StreamFault) → answer_of c.streams headers_kind s ≡ r
    → OutcomeSpeaks c.streams (headers_answered c s end r)
headers_speak c s end (Ok step.New) is =
    λ was. ap (λ (t : States). (sides_at t s).own) (ap (after_answer c.streams headers_kind s end) is)
    ∙ ap (λ (w : Sides). w.own) (begins c.streams s (record both_open { peer = not end })).here
headers_speak c s end (Ok step.Goes) is =
    λ was. ap (λ (t : States). (sides_at t s).own)
    (released_streams (headed c s end) s ∙ ap (after_answer c.streams headers_kind s end) is)
    ∙ by end was
  where
    by : (end : Bool) → (sides_at c.streams s).own ≡ true
        → (sides_at (after_answer c.streams headers_kind s end (Ok step.Goes)) s).own ≡ true
    by true was = ap (λ (w : Sides). w.own) (peer_side_ends c.streams s).here ∙ was
    by false was = was
headers_speak c s end (Ok step.Ignored) is = tt
headers_speak c s end (Err why) is = refusal c.streams _ why

block_speaks : (c : Core) (told : Result (Option Whole) BlockFault) → OutcomeSpeaks c.streams (block_told c told)
block_speaks c (Ok None) = tt
block_speaks c (Ok (Some whole)) =
    headers_speak c whole.stream whole.end_stream (answer_of c.streams headers_kind whole.stream) refl
block_speaks c (Err why) = fault c.streams c _

does_block : (progress : Progress) (c new : Core) (told : Found) → DoesBlock progress c new told → IsSpeaking told c.streams new.streams
does_block progress c new told does =
    given c.streams (block_told (record c { blocks = does.0 }) does.1) new told (block_speaks (record c { blocks = does.0 }) does.1) does.3

-- no other frame tells of headers
module _ (old : States) where
  data_by : (c : Core) (s k size : ℕ) (end : Bool) (o : Option Windows) → OutcomeSpeaks old (data_goes c s k size end o)
  data_by c s k size end None = tt
  data_by c s k size end (Some w) =
      either old _ (broken c s flow_control_error) (outcome (continued (padded c s k size) s end) (found.Chunk s end)) tt tt

  data_answers : (c : Core) (s k size : ℕ) (end : Bool) (r : Result Step StreamFault) → OutcomeSpeaks old (data_answered c s k size end r)
  data_answers c s k size end (Ok step.Goes) = data_by c s k size end (get c.flow.streams s)
  data_answers c s k size end (Ok step.New) = tt
  data_answers c s k size end (Ok step.Ignored) = tt
  data_answers c s k size end (Err why) = refusal old c why

  data_speak : (c : Core) (s k size : ℕ) (end : Bool) → OutcomeSpeaks old (on_data c s k size end)
  data_speak c s k size end =
      let r = answer_of c.streams data_kind s in
      let goes = data_answered (used c k) s k size end r in
      either old (is_of_idle r) (faulted c protocol_error) (cond _ (faulted c flow_control_error) goes) (fault old c protocol_error)
      (either old _ (faulted c flow_control_error) goes (fault old c flow_control_error) (data_answers (used c k) s k size end r))

  reset_answers : (c : Core) (s code : ℕ) (r : Result Step StreamFault) → OutcomeSpeaks old (reset_answered c s code r)
  reset_answers c s code (Ok step.Goes) = tt
  reset_answers c s code (Ok step.New) = tt
  reset_answers c s code (Ok step.Ignored) = tt
  reset_answers c s code (Err why) = refusal old c why

  window_grows : (c : Core) (s k : ℕ) (o : Option Windows) → OutcomeSpeaks old (stream_grows c s k o)
  window_grows c s k None = tt
  window_grows c s k (Some w) =
      either old _ (broken c s flow_control_error) (outcome (record c { flow = granted_on c.flow s k }) found.Silent) tt tt

  window_answers : (c : Core) (s k : ℕ) (r : Result Step StreamFault) → OutcomeSpeaks old (stream_answered c s k r)
  window_answers c s k (Ok step.Goes) =
      either old (k == 0) (broken c s protocol_error) (stream_grows c s k (get c.flow.streams s)) tt
      (window_grows c s k (get c.flow.streams s))
  window_answers c s k (Ok step.New) = tt
  window_answers c s k (Ok step.Ignored) = tt
  window_answers c s k (Err why) = refusal old c why

  window_speak : (c : Core) (s k : ℕ) → OutcomeSpeaks old (on_window c s k)
  window_speak c s k =
      let r = answer_of c.streams window_update_kind s in
      either old (s == 0) (connection_grows c k) (stream_answered c s k r)
      (either old _ (faulted c flow_control_error) (outcome (record c { flow = granted c.flow k }) found.Silent)
      (fault old c flow_control_error) tt)
      (window_answers c s k r)

  applied_speak : (c : Core) (fits : Bool) → OutcomeSpeaks old (applied c fits)
  applied_speak c true = tt
  applied_speak c false = fault old c _

  settings_by : (b : Bool) (c : Core) (pairs : List (ℕ × ℕ)) (new : Core) (told : Found) → SettlesBy b c pairs new told
      → IsSpeaking told old new.streams
  settings_by true c pairs new told is = given old _ new told (fault old c _) is
  settings_by false c pairs new told is = given old _ new told (applied_speak is.0 is.1) is.3

  settings_speak : (ack : Bool) (c : Core) (payload : List ℕ) (new : Core) (told : Found) → DoesSettings ack c payload new told
      → IsSpeaking told old new.streams
  settings_speak true c payload new told is = given old (outcome c found.Silent) new told tt is
  settings_speak false c payload new told is = settings_by _ c _ new told is

answers_speak : (c : Core) (g : Glance) (bytes : List ℕ) (new : Core) (told : Found) → Answers c g bytes new told
    → IsSpeaking told c.streams new.streams
answers_speak c glance.Nothing bytes new told is = given c.streams _ new told tt is
answers_speak c (glance.Data s k end) bytes new told is = given c.streams _ new told (data_speak c.streams c s k _ end) is
answers_speak c (glance.Headers s end whole) bytes new told is = does_block _ c new told is
answers_speak c (glance.Reset s code) bytes new told is = given c.streams _ new told (reset_answers c.streams c s code _) is
answers_speak c (glance.Settings ack) bytes new told is = settings_speak c.streams ack c bytes new told is
answers_speak c (glance.Ping ack value) bytes new told is =
    given c.streams (does c (glance.Ping ack value) bytes) new told
    (either c.streams ack (outcome c found.Silent) (outcome (sent c (ping_ack value)) found.Silent) tt tt) is
answers_speak c (glance.GoAway last) bytes new told is = given c.streams _ new told tt is
answers_speak c (glance.Window s k) bytes new told is = given c.streams _ new told (window_speak c.streams c s k) is
answers_speak c (glance.Continuation s whole) bytes new told is = does_block _ c new told is
answers_speak c glance.Other bytes new told is = given c.streams _ new told tt is
answers_speak c (glance.Refused code row kind flags) bytes new told is = given c.streams _ new told (fault c.streams c code) is

handles_by : (b : Bool) (c : Core) (g : Glance) (bytes : List ℕ) (new : Core) (told : Found) → HandlesBy b c g bytes new told
    → IsSpeaking told c.streams new.streams
handles_by true c g bytes new told is = given c.streams _ new told (fault c.streams c _) is
handles_by false c g bytes new told is = answers_speak c g bytes new told is

-- WHAT IS FOUND NEXT

-- where nothing is told all sides stay
abbrev Speaks : Core → Core → Found → Type 0
Speaks c new found.Silent = All c.streams new.streams
Speaks c new told = IsSpeaking told c.streams new.streams

joined : (c new : Core) (told : Found) → On told c.streams new.streams → IsSpeaking told c.streams new.streams → Speaks c new told
joined c new found.Silent on so = on
joined c new (found.Opened s end) on so = so
joined c new (found.Chunk s end) on so = so
joined c new (found.Ended s) on so = so
joined c new (found.Reset s code) on so = so
joined c new (found.Broken s code) on so = so
joined c new (found.GoneAway last) on so = so
joined c new (found.Fault code) on so = so

still : (c new : Core) (told : Found) → IsStill told → new ≡ c → Speaks c new told
still c new found.Silent quiet is = all_same c.streams new.streams (ap (λ (x : Core). x.streams) is)
still c new (found.Ended s) quiet is = tt
still c new (found.Opened s end) quiet is = absurd quiet
still c new (found.Chunk s end) quiet is = absurd quiet
still c new (found.Reset s code) quiet is = absurd quiet
still c new (found.Broken s code) quiet is = absurd quiet
still c new (found.GoneAway last) quiet is = absurd quiet
still c new (found.Fault code) quiet is = absurd quiet

behind : (c mid new : Core) (told : Found) → All c.streams mid.streams → Speaks mid new told → Speaks c new told
behind c mid new found.Silent first then = λ m. then m ∙ first m
behind c mid new (found.Opened s end) first then = λ was. then (ap (λ (w : Sides). w.own) (first s) ∙ was)
behind c mid new (found.Chunk s end) first then = then
behind c mid new (found.Ended s) first then = then
behind c mid new (found.Reset s code) first then = then
behind c mid new (found.Broken s code) first then = then
behind c mid new (found.GoneAway last) first then = then
behind c mid new (found.Fault code) first then = then

faults : (c new : Core) (code : ℕ) (told : Found) → Gives (faulted c code) new told → Speaks c new told
unfolding faulted
faults c new code told is = subst (λ (t : Found). Speaks c new t) (sym is.1) tt

speaking : Holds Speaks
speaking = record {
  same = still;
  on = behind;
  handled = λ r c new told is. joined c new told
      (handles_on (is_misplaced c (glance_of r)) c (glance_of r) (asked r).last new told is)
      (handles_by (is_misplaced c (glance_of r)) c (glance_of r) (asked r).last new told is);
  faults = faults;
}

pub finds_speak : (c d : Connection) (s : ℕ) (end : Bool) → Finds c d (found.Opened s end) → own_side_open c s ≡ true
    → own_side_open d s ≡ true
finds_speak c d s end finds = finds_so Speaks speaking c d (found.Opened s end) finds
