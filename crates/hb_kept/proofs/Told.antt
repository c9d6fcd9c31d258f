-- What is shown of all that a frame tells, from what is shown of HEADERS and of DATA that go to their stream.
use Rattle.std.proofs.Common.{◌≡◌, ℕ, ◌==◌, Bool, true, false, cond, List, Option, Some, None, Result, Ok, Err, refl, sym, subst}
use Rattle.std.specs.FinMap.{get}
use Rattle.hb_base.specs.declared.scope.Scope.{Scope}
use Rattle.hb_base.specs.declared.scope.Scope.TheVariants as scope
use Rattle.hb_frames.specs.Numbers.{data_kind, headers_kind, window_update_kind, protocol_error, flow_control_error}
use Rattle.hb_streams.specs.Answers.{answer_of}
use Rattle.hb_streams.specs.declared.fault.StreamFault.{StreamFault}
use Rattle.hb_streams.specs.declared.step.Step.{Step}
use Rattle.hb_streams.specs.declared.step.Step.TheVariants as step
use Rattle.hb_flow.specs.Windows.{Windows}
use Rattle.hb_flow.specs.Flows.{granted, granted_on}
use Rattle.hb_blocks.specs.Assembly.{Assembly, Progress}
use Rattle.hb_blocks.specs.declared.fault.BlockFault.{BlockFault}
use Rattle.hb_blocks.specs.declared.whole.Whole.{Whole}
use Rattle.hb_conn.specs.Data.{used, padded, continued, data_goes, data_answered, is_of_idle, on_data}
use Rattle.hb_conn.specs.Faults.{faulted, refused, refused_by, released, broken}
use Rattle.hb_conn.specs.Frames.{sent, ping_ack}
use Rattle.hb_conn.specs.Handling.{does, Answers, Handles, HandlesBy}
use Rattle.hb_conn.specs.Headers.{headed, begun, headers_answered, block_told, DoesBlock}
use Rattle.hb_conn.specs.Outcome.{Outcome, outcome, Gives}
use Rattle.hb_conn.specs.Places.{is_misplaced}
use Rattle.hb_conn.specs.Resets.{reset_answered}
use Rattle.hb_conn.specs.Settings.{applied, SettlesBy, DoesSettings}
use Rattle.hb_conn.specs.Windows.{connection_grows, stream_grows, stream_answered, on_window}
use Rattle.hb_conn.specs.declared.found.Found.{Found}
use Rattle.hb_conn.specs.declared.found.Found.TheVariants as found
use Rattle.hb_conn.specs.declared.glance.Glance.{Glance}
use Rattle.hb_conn.specs.declared.glance.Glance.TheVariants as glance
use Rattle.hb_conn.specs.declared.machine.Core.{Core}
use Rattle.hb_kept.proofs.Sides.{updated_streams}

-- no headers, no DATA and no end of a stream is told
abbrev pub IsOther : Found → Type 0
IsOther (found.Opened s end) = ⊥
IsOther (found.Chunk s end) = ⊥
IsOther (found.Ended s) = ⊥
IsOther _ = Unit {0}

-- it holds behind HEADERS that open a stream, behind those that go to one, and behind DATA that goes to one
pub record Tells (Is : Found → Core → Type 0) (c : Core) : Type 0 where
  pub opens : (blocks : Assembly) (s : ℕ) (end : Bool) → answer_of c.streams headers_kind s ≡ Ok step.New
      → Is (found.Opened s end) (begun (record c { blocks = blocks }) s end)
  pub heads : (blocks : Assembly) (s : ℕ) (end : Bool) → answer_of c.streams headers_kind s ≡ Ok step.Goes
      → Is (found.Opened s end) (released (headed (record c { blocks = blocks }) s end) s)
  pub chunks : (d : Core) (s : ℕ) (end : Bool) → d.streams ≡ c.streams → answer_of c.streams data_kind s ≡ Ok step.Goes
      → Is (found.Chunk s end) (continued d s end)

module _ (Is : Found → Core → Type 0) (other : (told : Found) (c : Core) → IsOther told → Is told c) where
  abbrev Shows : Outcome → Type 0
  Shows o = Is o.found o.core

  given : (o : Outcome) (new : Core) (told : Found) → Shows o → Gives o new told → Is told new
  given o new told shows is =
      subst (λ t. Is t new) (sym is.1) (subst (λ (c : Core). Is o.found c) (sym is.0) shows)

  either : (b : Bool) (o p : Outcome) → Shows o → Shows p → Shows (cond b o p)
  either true o p first second = first
  either false o p first second = second

  fault : (c : Core) (code : ℕ) → Shows (faulted c code)
  unfolding faulted
  fault c code = other _ _ tt

  pub fault_so : (c new : Core) (code : ℕ) (told : Found) → Gives (faulted c code) new told → Is told new
  fault_so c new code told is = given (faulted c code) new told (fault c code) is

  refusal : (c : Core) (why : StreamFault) → Shows (refused c why)
  refusal c why = by why.scope
    where
      by : (reach : Scope) → Shows (refused_by c reach why.code)
      by scope.Connection = fault c why.code
      by (scope.Stream s) = other _ _ tt

  headers_so : (c : Core) → Tells Is c → (blocks : Assembly) (s : ℕ) (end : Bool) (r : Result Step StreamFault)
      → answer_of c.streams headers_kind s ≡ r → Shows (headers_answered (record c { blocks = blocks }) s end r)
  headers_so c t blocks s end (Ok step.New) is = t.opens blocks s end is
  headers_so c t blocks s end (Ok step.Goes) is = t.heads blocks s end is
  headers_so c t blocks s end (Ok step.Ignored) is = other _ _ tt
  headers_so c t blocks s end (Err why) is = refusal _ why

  block_so : (c : Core) → Tells Is c → (blocks : Assembly) (told : Result (Option Whole) BlockFault)
      → Shows (block_told (record c { blocks = blocks }) told)
  block_so c t blocks (Ok None) = other _ _ tt
  block_so c t blocks (Ok (Some whole)) =
      headers_so c t blocks whole.stream whole.end_stream (answer_of c.streams headers_kind whole.stream) refl
  block_so c t blocks (Err why) = fault _ _

  does_block : (progress : Progress) (c new : Core) (told : Found) → Tells Is c → DoesBlock progress c new told → Is told new
  does_block progress c new told t does =
      given (block_told (record c { blocks = does.0 }) does.1) new told (block_so c t does.0 does.1) does.3

  data_by : (c d : Core) (s k size : ℕ) (end : Bool) (o : Option Windows) → Tells Is c → d.streams ≡ c.streams
      → answer_of c.streams data_kind s ≡ Ok step.Goes → Shows (data_goes d s k size end o)
  data_by c d s k size end None t same is = t.chunks d s end same is
  data_by c d s k size end (Some w) t same is =
      either _ (broken d s flow_control_error) (outcome (continued (padded d s k size) s end) (found.Chunk s end)) (other _ _ tt)
      (t.chunks (padded d s k size) s end same is)

  data_answers : (c d : Core) (s k size : ℕ) (end : Bool) (r : Result Step StreamFault) → Tells Is c → d.streams ≡ c.streams
      → answer_of c.streams data_kind s ≡ r → Shows (data_answered d s k size end r)
  data_answers c d s k size end (Ok step.Goes) t same is = data_by c d s k size end (get d.flow.streams s) t same is
  data_answers c d s k size end (Ok step.New) t same is = other _ _ tt
  data_answers c d s k size end (Ok step.Ignored) t same is = other _ _ tt
  data_answers c d s k size end (Err why) t same is = refusal d why

  data_so : (c : Core) (s k size : ℕ) (end : Bool) → Tells Is c → Shows (on_data c s k size end)
  data_so c s k size end t =
      let r = answer_of c.streams data_kind s in
      let goes = data_answered (used c k) s k size end r in
      either (is_of_idle r) (faulted c protocol_error) (cond _ (faulted c flow_control_error) goes) (fault c protocol_error)
      (either _ (faulted c flow_control_error) goes (fault c flow_control_error)
      (data_answers c (used c k) s k size end r t (updated_streams _ _) refl))

  reset_answers : (c : Core) (s code : ℕ) (r : Result Step StreamFault) → Shows (reset_answered c s code r)
  reset_answers c s code (Ok step.Goes) = other _ _ tt
  reset_answers c s code (Ok step.New) = other _ _ tt
  reset_answers c s code (Ok step.Ignored) = other _ _ tt
  reset_answers c s code (Err why) = refusal c why

  window_grows : (c : Core) (s k : ℕ) (o : Option Windows) → Shows (stream_grows c s k o)
  window_grows c s k None = other _ _ tt
  window_grows c s k (Some w) =
      either _ (broken c s flow_control_error) (outcome (record c { flow = granted_on c.flow s k }) found.Silent) (other _ _ tt)
      (other _ _ tt)

  window_answers : (c : Core) (s k : ℕ) (r : Result Step StreamFault) → Shows (stream_answered c s k r)
  window_answers c s k (Ok step.Goes) =
      either (k == 0) (broken c s protocol_error) (stream_grows c s k (get c.flow.streams s)) (other _ _ tt)
      (window_grows c s k (get c.flow.streams s))
  window_answers c s k (Ok step.New) = other _ _ tt
  window_answers c s k (Ok step.Ignored) = other _ _ tt
  window_answers c s k (Err why) = refusal c why

  window_so : (c : Core) (s k : ℕ) → Shows (on_window c s k)
  window_so c s k =
      let r = answer_of c.streams window_update_kind s in
      either (s == 0) (connection_grows c k) (stream_answered c s k r)
      (either _ (faulted c flow_control_error) (outcome (record c { flow = granted c.flow k }) found.Silent) (fault c flow_control_error)
      (other _ _ tt))
      (window_answers c s k r)

  applied_so : (c : Core) (fits : Bool) → Shows (applied c fits)
  applied_so c true = other _ _ tt
  applied_so c false = fault c _

  settings_by : (b : Bool) (c : Core) (pairs : List (ℕ × ℕ)) (new : Core) (told : Found) → SettlesBy b c pairs new told → Is told new
  settings_by true c pairs new told is = given _ new told (fault c _) is
  settings_by false c pairs new told is = given _ new told (applied_so is.0 is.1) is.3

  settings_so : (ack : Bool) (c : Core) (payload : List ℕ) (new : Core) (told : Found) → DoesSettings ack c payload new told
      → Is told new
  settings_so true c payload new told is = given (outcome c found.Silent) new told (other _ _ tt) is
  settings_so false c payload new told is = settings_by _ c _ new told is

  answers_so : (c : Core) (g : Glance) (bytes : List ℕ) (new : Core) (told : Found) → Tells Is c → Answers c g bytes new told
      → Is told new
  answers_so c glance.Nothing bytes new told t is = given _ new told (other _ _ tt) is
  answers_so c (glance.Data s k end) bytes new told t is = given _ new told (data_so c s k _ end t) is
  answers_so c (glance.Headers s end whole) bytes new told t is = does_block _ c new told t is
  answers_so c (glance.Reset s code) bytes new told t is = given _ new told (reset_answers c s code _) is
  answers_so c (glance.Settings ack) bytes new told t is = settings_so ack c bytes new told is
  answers_so c (glance.Ping ack value) bytes new told t is =
      given (does c (glance.Ping ack value) bytes) new told
      (either ack (outcome c found.Silent) (outcome (sent c (ping_ack value)) found.Silent) (other _ _ tt) (other _ _ tt)) is
  answers_so c (glance.GoAway last) bytes new told t is = given _ new told (other _ _ tt) is
  answers_so c (glance.Window s k) bytes new told t is = given _ new told (window_so c s k) is
  answers_so c (glance.Continuation s whole) bytes new told t is = does_block _ c new told t is
  answers_so c glance.Other bytes new told t is = given _ new told (other _ _ tt) is
  answers_so c (glance.Refused code row kind flags) bytes new told t is = given _ new told (fault c code) is

  handles_by : (b : Bool) (c : Core) (g : Glance) (bytes : List ℕ) (new : Core) (told : Found) → Tells Is c
      → HandlesBy b c g bytes new told → Is told new
  handles_by true c g bytes new told t is = given _ new told (fault c _) is
  handles_by false c g bytes new told t is = answers_so c g bytes new told t is

  pub handles_so : (c : Core) (g : Glance) (bytes : List ℕ) (new : Core) (told : Found) → Tells Is c → Handles c g bytes new told
      → Is told new
  handles_so c g bytes new told t is = handles_by (is_misplaced c g) c g bytes new told t is
