-- DATA that is told of a frame is of that frame.
use Rattle.std.proofs.Common.{◌≡◌, ℕ, ◌==◌, Bool, true, false, cond, List, Option, Some, None, Result, Ok, Err, refl, sym, subst}
use Rattle.std.specs.FinMap.{get}
use Rattle.std.proofs.lemmas.Bool.{cond_both, eqb-true}
use Rattle.hb_base.specs.declared.scope.Scope.{Scope}
use Rattle.hb_base.specs.declared.scope.Scope.TheVariants as scope
use Rattle.hb_blocks.specs.Assembly.{Progress}
use Rattle.hb_blocks.specs.declared.fault.BlockFault.{BlockFault}
use Rattle.hb_blocks.specs.declared.whole.Whole.{Whole}
use Rattle.hb_conn.specs.Data.{used, padded, continued, data_goes, data_answered, is_of_idle, on_data}
use Rattle.hb_conn.specs.Faults.{faulted, refused, refused_by, broken}
use Rattle.hb_conn.specs.Frames.{sent, ping_ack}
use Rattle.hb_conn.specs.Glance.{glance_at, glance_at_others}
use Rattle.hb_conn.specs.Handling.{does, Answers, Handles, HandlesBy}
use Rattle.hb_conn.specs.Headers.{headers_answered, block_told, DoesBlock}
use Rattle.hb_conn.specs.Outcome.{Outcome, outcome, Gives}
use Rattle.hb_conn.specs.Places.{is_misplaced}
use Rattle.hb_conn.specs.Resets.{reset_answered}
use Rattle.hb_conn.specs.Settings.{applied, SettlesBy, DoesSettings}
use Rattle.hb_conn.specs.Windows.{connection_grows, stream_grows, stream_answered, on_window}
use Rattle.hb_conn.specs.declared.found.Found.{Found}
use Rattle.hb_conn.specs.declared.found.Found.TheVariants as found
use Rattle.hb_conn.specs.declared.glance.Glance.{Glance}
use Rattle.hb_conn.specs.declared.glance.Glance.TheVariants as glance
use Rattle.hb_conn.specs.declared.machine.Core.{Core}
use Rattle.hb_flow.specs.Flows.{granted, granted_on}
use Rattle.hb_flow.specs.Windows.{Windows}
use Rattle.hb_frames.specs.Numbers.{data_kind, headers_kind, rst_stream_kind, continuation_kind, settings_kind, ping_kind, goaway_kind, window_update_kind, protocol_error, flow_control_error}
use Rattle.hb_frames.specs.RawFrame.{RawFrame}
use Rattle.hb_streams.specs.Answers.{answer_of}
use Rattle.hb_streams.specs.declared.fault.StreamFault.{StreamFault}
use Rattle.hb_streams.specs.declared.step.Step.{Step}
use Rattle.hb_streams.specs.declared.step.Step.TheVariants as step

-- no DATA is told
abbrev IsOther : Found → Type 0
IsOther (found.Chunk s end) = ⊥
IsOther _ = Unit {0}

-- what is shown of all that isn't DATA
module _ (P : Found → Type 0) (other : (told : Found) → IsOther told → P told) where
  abbrev Shows : Outcome → Type 0
  Shows o = P o.found

  given : (o : Outcome) (new : Core) (told : Found) → Shows o → Gives o new told → P told
  given o new told shows is = subst P (sym is.1) shows

  either : (b : Bool) (o p : Outcome) → Shows o → Shows p → Shows (cond b o p)
  either true o p first second = first
  either false o p first second = second

  fault : (c : Core) (code : ℕ) → Shows (faulted c code)
  unfolding faulted
  fault c code = other _ tt

  refusal : (c : Core) (why : StreamFault) → Shows (refused c why)
  refusal c why = by why.scope
    where
      by : (reach : Scope) → Shows (refused_by c reach why.code)
      by scope.Connection = fault c why.code
      by (scope.Stream s) = other _ tt

  headers_so : (c : Core) (s : ℕ) (end : Bool) (r : Result Step StreamFault) → Shows (headers_answered c s end r)
  headers_so c s end (Ok step.New) = other _ tt
  headers_so c s end (Ok step.Goes) = other _ tt
  headers_so c s end (Ok step.Ignored) = other _ tt
  headers_so c s end (Err why) = refusal _ why

  block_so : (c : Core) (told : Result (Option Whole) BlockFault) → Shows (block_told c told)
  block_so c (Ok None) = other _ tt
  block_so c (Ok (Some whole)) = headers_so c whole.stream whole.end_stream (answer_of c.streams headers_kind whole.stream)
  block_so c (Err why) = fault _ _

  does_block : (progress : Progress) (c new : Core) (told : Found) → DoesBlock progress c new told → P told
  does_block progress c new told does =
      given (block_told (record c { blocks = does.0 }) does.1) new told (block_so (record c { blocks = does.0 }) does.1) does.3

  reset_answers : (c : Core) (s code : ℕ) (r : Result Step StreamFault) → Shows (reset_answered c s code r)
  reset_answers c s code (Ok step.Goes) = other _ tt
  reset_answers c s code (Ok step.New) = other _ tt
  reset_answers c s code (Ok step.Ignored) = other _ tt
  reset_answers c s code (Err why) = refusal c why

  window_grows : (c : Core) (s k : ℕ) (o : Option Windows) → Shows (stream_grows c s k o)
  window_grows c s k None = other _ tt
  window_grows c s k (Some w) =
      either _ (broken c s flow_control_error) (outcome (record c { flow = granted_on c.flow s k }) found.Silent) (other _ tt) (other _ tt)

  window_answers : (c : Core) (s k : ℕ) (r : Result Step StreamFault) → Shows (stream_answered c s k r)
  window_answers c s k (Ok step.Goes) =
      either (k == 0) (broken c s protocol_error) (stream_grows c s k (get c.flow.streams s)) (other _ tt)
      (window_grows c s k (get c.flow.streams s))
  window_answers c s k (Ok step.New) = other _ tt
  window_answers c s k (Ok step.Ignored) = other _ tt
  window_answers c s k (Err why) = refusal c why

  window_so : (c : Core) (s k : ℕ) → Shows (on_window c s k)
  window_so c s k =
      let r = answer_of c.streams window_update_kind s in
      either (s == 0) (connection_grows c k) (stream_answered c s k r)
      (either _ (faulted c flow_control_error) (outcome (record c { flow = granted c.flow k }) found.Silent) (fault c flow_control_error)
      (other _ tt))
      (window_answers c s k r)

  applied_so : (c : Core) (fits : Bool) → Shows (applied c fits)
  applied_so c true = other _ tt
  applied_so c false = fault c _

  settings_by : (b : Bool) (c : Core) (pairs : List (ℕ × ℕ)) (new : Core) (told : Found) → SettlesBy b c pairs new told → P told
  settings_by true c pairs new told is = given _ new told (fault c _) is
  settings_by false c pairs new told is = given _ new told (applied_so is.0 is.1) is.3

  settings_so : (ack : Bool) (c : Core) (payload : List ℕ) (new : Core) (told : Found) → DoesSettings ack c payload new told → P told
  settings_so true c payload new told is = given (outcome c found.Silent) new told (other _ tt) is
  settings_so false c payload new told is = settings_by _ c _ new told is

  -- and of DATA that goes to its stream
  module _ (s : ℕ) (end : Bool) (chunk : P (found.Chunk s end)) where
    data_by : (c : Core) (k size : ℕ) (o : Option Windows) → Shows (data_goes c s k size end o)
    data_by c k size None = chunk
    data_by c k size (Some w) =
        either _ (broken c s flow_control_error) (outcome (continued (padded c s k size) s end) (found.Chunk s end)) (other _ tt) chunk

    data_answers : (c : Core) (k size : ℕ) (r : Result Step StreamFault) → Shows (data_answered c s k size end r)
    data_answers c k size (Ok step.Goes) = data_by c k size (get c.flow.streams s)
    data_answers c k size (Ok step.New) = other _ tt
    data_answers c k size (Ok step.Ignored) = other _ tt
    data_answers c k size (Err why) = refusal c why

    data_so : (c : Core) (k size : ℕ) → Shows (on_data c s k size end)
    data_so c k size =
        let r = answer_of c.streams data_kind s in
        let goes = data_answered (used c k) s k size end r in
        either (is_of_idle r) (faulted c protocol_error) (cond _ (faulted c flow_control_error) goes) (fault c protocol_error)
        (either _ (faulted c flow_control_error) goes (fault c flow_control_error) (data_answers (used c k) k size r))

  module _ (g : Glance) (chunks : (s k : ℕ) (end : Bool) → g ≡ glance.Data s k end → P (found.Chunk s end)) where
    answers_so : (c : Core) (h : Glance) (bytes : List ℕ) (new : Core) (told : Found) → g ≡ h → Answers c h bytes new told → P told
    answers_so c glance.Nothing bytes new told at is = given _ new told (other _ tt) is
    answers_so c (glance.Data s k end) bytes new told at is = given _ new told (data_so s end (chunks s k end at) c k _) is
    answers_so c (glance.Headers s end whole) bytes new told at is = does_block _ c new told is
    answers_so c (glance.Reset s code) bytes new told at is = given _ new told (reset_answers c s code _) is
    answers_so c (glance.Settings ack) bytes new told at is = settings_so ack c bytes new told is
    answers_so c (glance.Ping ack value) bytes new told at is =
        given (does c (glance.Ping ack value) bytes) new told
        (either ack (outcome c found.Silent) (outcome (sent c (ping_ack value)) found.Silent) (other _ tt) (other _ tt)) is
    answers_so c (glance.GoAway last) bytes new told at is = given _ new told (other _ tt) is
    answers_so c (glance.Window s k) bytes new told at is = given _ new told (window_so c s k) is
    answers_so c (glance.Continuation s whole) bytes new told at is = does_block _ c new told is
    answers_so c glance.Other bytes new told at is = given _ new told (other _ tt) is
    answers_so c (glance.Refused code row kind flags) bytes new told at is = given _ new told (fault c code) is

    handles_by : (b : Bool) (c : Core) (bytes : List ℕ) (new : Core) (told : Found) → HandlesBy b c g bytes new told → P told
    handles_by true c bytes new told is = given _ new told (fault c _) is
    handles_by false c bytes new told is = answers_so c g bytes new told refl is

-- where DATA is told, the frame is DATA of that stream
abbrev IsOf : Glance → Found → Type 0
IsOf g (found.Chunk s end) = (k : ℕ) × (g ≡ glance.Data s k end)
IsOf g told = Unit {0}

of_other : (g : Glance) (told : Found) → IsOther told → IsOf g told
of_other g (found.Chunk s end) is = absurd is
of_other g _ is = tt

chunk_is_data : (c : Core) (g : Glance) (bytes : List ℕ) (new : Core) (s : ℕ) (end : Bool) → Handles c g bytes new (found.Chunk s end)
    → (k : ℕ) × (g ≡ glance.Data s k end)
chunk_is_data c g bytes new s end is =
    handles_by (IsOf g) (of_other g) g (λ s k end at. (k, at)) (is_misplaced c g) c bytes new (found.Chunk s end) is

-- what a glance tells of the frame
abbrev IsData : RawFrame → Glance → Type 0
IsData f (glance.Data s k end) = (f.kind ≡ data_kind) × (f.stream ≡ s)
IsData f g = Unit {0}

others_data : (f : RawFrame) → IsData f (glance_at_others f)
others_data f =
    cond_both (f.kind == settings_kind) _ _ (IsData f) (λ is. tt) (λ is.
    cond_both (f.kind == ping_kind) _ _ (IsData f) (λ is. tt) (λ is.
    cond_both (f.kind == goaway_kind) _ _ (IsData f) (λ is. tt) (λ is.
    cond_both (f.kind == window_update_kind) _ _ (IsData f) (λ is. tt) (λ is. tt))))

glance_data : (f : RawFrame) → IsData f (glance_at f)
glance_data f =
    cond_both (f.kind == data_kind) _ _ (IsData f) (λ is. (eqb-true f.kind data_kind is, refl)) (λ is.
    cond_both (f.kind == headers_kind) _ _ (IsData f) (λ is. tt) (λ is.
    cond_both (f.kind == rst_stream_kind) _ _ (IsData f) (λ is. tt) (λ is.
    cond_both (f.kind == continuation_kind) _ _ (IsData f) (λ is. tt) (λ is. others_data f))))

pub chunk_of_frame : (c : Core) (f : RawFrame) (bytes : List ℕ) (new : Core) (s : ℕ) (end : Bool)
    → Handles c (glance_at f) bytes new (found.Chunk s end) → (f.kind ≡ data_kind) × (f.stream ≡ s)
chunk_of_frame c f bytes new s end is =
    subst (IsData f) (chunk_is_data c (glance_at f) bytes new s end is).1 (glance_data f)
