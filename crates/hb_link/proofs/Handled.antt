-- What a frame that opens a stream leaves of the room, and which frames open one.
use Rattle.std.proofs.Common.{◌≡◌, ℕ, ◌+◌, ◌≤◌, ◌==◌, ◌&&◌, ◌||◌, not, Bool, true, false, cond, List, [], length, Option, Some, None, Result, Ok, Err, refl, ap, sym, ◌∙◌, subst, arith}
use Rattle.std.specs.FinMap.{get}
use Rattle.std.proofs.lemmas.Bool.{false≢true, eqb-true, cond_both}
use Rattle.hb_base.specs.declared.scope.Scope.{Scope}
use Rattle.hb_base.specs.declared.scope.Scope.TheVariants as scope
use Rattle.hb_blocks.specs.Assembly.{Assembly, Progress, too_long, waits, complete, joined, longest_block, opening_of}
use Rattle.hb_blocks.specs.Assembly as blocks
use Rattle.hb_blocks.specs.Outcome.{Makes}
use Rattle.hb_blocks.specs.declared.fault.BlockFault.{BlockFault}
use Rattle.hb_blocks.specs.declared.whole.Opening.{Opening}
use Rattle.hb_blocks.specs.declared.whole.Whole.{Whole}
use Rattle.hb_conn.specs.Data.{used, padded, continued, data_goes, data_answered, is_of_idle, on_data}
use Rattle.hb_conn.specs.Faults.{faulted, refused, refused_by, broken, released, is_active}
use Rattle.hb_conn.specs.Frames.{sent, ping_ack}
use Rattle.hb_conn.specs.Glance.{IsInRange}
use Rattle.hb_conn.specs.Handling.{does, Answers, HandlesBy, Handles}
use Rattle.hb_conn.specs.Headers.{headed, headers_answered, block_told, DoesBlock, with_memory}
use Rattle.hb_conn.specs.Headers.{begun as stream_begun}
use Rattle.hb_conn.specs.Outcome.{Outcome, outcome, Gives}
use Rattle.hb_conn.specs.Places.{is_misplaced, is_settings}
use Rattle.hb_conn.specs.Places as places
use Rattle.hb_conn.specs.Resets.{reset_answered}
use Rattle.hb_conn.specs.Settings.{applied, SettlesBy, DoesSettings}
use Rattle.hb_conn.specs.Windows.{connection_grows, stream_grows, stream_answered, on_window}
use Rattle.hb_conn.specs.declared.found.Found.{Found}
use Rattle.hb_conn.specs.declared.found.Found.TheVariants as found
use Rattle.hb_conn.specs.declared.glance.Glance.{Glance}
use Rattle.hb_conn.specs.declared.glance.Glance.TheVariants as glance
use Rattle.hb_conn.specs.declared.machine.Core.{Core}
use Rattle.hb_flow.specs.Flows.{granted, granted_on}
use Rattle.hb_flow.specs.Windows.{Windows}
use Rattle.hb_frames.specs.Numbers.{largest, data_kind, headers_kind, window_update_kind, protocol_error, flow_control_error}
use Rattle.std.specs.Prelude.{⊤, nat_lt}
use Rattle.hb_outgoing.specs.Waiting.{room_of}
use Rattle.hb_streams.specs.Answers.{answer_of}
use Rattle.hb_streams.specs.declared.fault.StreamFault.{StreamFault}
use Rattle.hb_streams.specs.declared.step.Step.{Step}
use Rattle.hb_streams.specs.declared.step.Step.TheVariants as step

-- a stream that is opened has a number of 31 bits, and nothing is put for it; no frame tells an end by itself
abbrev pub IsFree : Found → Core → Core → Type 0
IsFree (found.Opened s end) c new = (s ≤ largest) × (room_of c.out ≤ room_of new.out)
IsFree (found.Ended s) c new = ⊥
IsFree told c new = ⊤

abbrev OutcomeFree : Core → Outcome → Type 0
OutcomeFree c o = IsFree o.found c o.core

given : (c : Core) (o : Outcome) (new : Core) (told : Found) → OutcomeFree c o → Gives o new told → IsFree told c new
given c o new told free is =
    subst (λ (t : Found). IsFree t c new) (sym is.1) (subst (λ (x : Core). IsFree o.found c x) (sym is.0) free)

either : (c : Core) (b : Bool) (o p : Outcome) → OutcomeFree c o → OutcomeFree c p → OutcomeFree c (cond b o p)
either c true o p first second = first
either c false o p first second = second

fault : (b c : Core) (code : ℕ) → OutcomeFree b (faulted c code)
unfolding faulted
fault b c code = tt

refusal : (b c : Core) (why : StreamFault) → OutcomeFree b (refused c why)
refusal b c why = by why.scope
  where
    by : (reach : Scope) → OutcomeFree b (refused_by c reach why.code)
    by scope.Connection = fault b c why.code
    by (scope.Stream s) = tt

-- HEADERS
released_out : (c : Core) (s : ℕ) → (released c s).out ≡ c.out
released_out c s = cond_both (is_active c.streams s) c _ (λ (x : Core). x.out ≡ c.out) (λ is. refl) (λ is. refl)

same_room : (b c : Core) → c.out ≡ b.out → room_of b.out ≤ room_of c.out
same_room b c is = subst (λ w. room_of b.out ≤ room_of w) (sym is) (omega arith)

headers_free : (b c : Core) (s : ℕ) (end : Bool) (r : Result Step StreamFault) → c.out ≡ b.out → s ≤ largest
    → OutcomeFree b (headers_answered c s end r)
headers_free b c s end (Ok step.New) is number = (number, same_room b (stream_begun c s end) is)
headers_free b c s end (Ok step.Goes) is number = (number, same_room b (released (headed c s end) s) (released_out (headed c s end) s ∙ is))
headers_free b c s end (Ok step.Ignored) is number = tt
headers_free b c s end (Err why) is number = refusal b _ why

block_free : (b c : Core) (told : Result (Option Whole) BlockFault) → c.out ≡ b.out
    → ((whole : Whole) → told ≡ Ok (Some whole) → whole.stream ≤ largest) → OutcomeFree b (block_told c told)
block_free b c (Ok None) is number = tt
block_free b c (Ok (Some whole)) is number =
    headers_free b c whole.stream whole.end_stream (answer_of c.streams headers_kind whole.stream) is (number whole refl)
block_free b c (Err why) is number = fault b c _

-- the block that is whole is of the stream that was opened last
abbrev IsOf : ℕ → Progress → Type 0
IsOf s too_long = ⊤
IsOf s (waits opening block) = opening.stream ≡ s
IsOf s (complete opening block) = opening.stream ≡ s

joined_of : (opening : Opening) (block fragment : List ℕ) (whole : Bool) → IsOf opening.stream (joined opening block fragment whole)
joined_of opening block fragment whole =
    cond_both (nat_lt longest_block (length block + length fragment)) too_long _ (IsOf opening.stream) (λ is. tt)
    (λ is. cond_both whole (complete opening _) (waits opening _) (IsOf opening.stream) (λ is. refl) (λ is. refl))

made_of : (s : ℕ) (progress : Progress) (old new : Assembly) (told : Result (Option Whole) BlockFault) (whole : Whole) → IsOf s progress
    → Makes progress old new (with_memory told) → told ≡ Ok (Some whole) → whole.stream ≡ s
made_of s progress old new told whole of makes is =
    by progress of (subst (λ (t : Result (Option Whole) BlockFault). Makes progress old new (with_memory t)) is makes)
  where
    by : (p : Progress) → IsOf s p → Makes p old new (Ok (Some whole)) → whole.stream ≡ s
    by too_long of makes = absurd makes
    by (waits opening block) of makes = absurd makes
    by (complete opening block) of makes = ap (λ (w : Whole). w.stream) makes.0 ∙ of

does_block : (s : ℕ) (progress : Progress) (c new : Core) (told : Found) → s ≤ largest → IsOf s progress → DoesBlock progress c new told
    → IsFree told c new
does_block s progress c new told number of does =
    given c (block_told (record c { blocks = does.0 }) does.1) new told
    (block_free c (record c { blocks = does.0 }) does.1 refl (λ whole is.
    subst (λ (n : ℕ). n ≤ largest) (sym (made_of s progress c.blocks does.0 does.1 whole of does.2 is)) number)) does.3

-- no other frame opens a stream
data_by : (b c : Core) (s k size : ℕ) (end : Bool) (o : Option Windows) → OutcomeFree b (data_goes c s k size end o)
data_by b c s k size end None = tt
data_by b c s k size end (Some w) =
    either b _ (broken c s flow_control_error) (outcome (continued (padded c s k size) s end) (found.Chunk s end)) tt tt

data_answers : (b c : Core) (s k size : ℕ) (end : Bool) (r : Result Step StreamFault) → OutcomeFree b (data_answered c s k size end r)
data_answers b c s k size end (Ok step.Goes) = data_by b c s k size end (get c.flow.streams s)
data_answers b c s k size end (Ok step.New) = tt
data_answers b c s k size end (Ok step.Ignored) = tt
data_answers b c s k size end (Err why) = refusal b c why

data_free : (c : Core) (s k size : ℕ) (end : Bool) → OutcomeFree c (on_data c s k size end)
data_free c s k size end =
    let r = answer_of c.streams data_kind s in
    let goes = data_answered (used c k) s k size end r in
    either c (is_of_idle r) (faulted c protocol_error) (cond _ (faulted c flow_control_error) goes) (fault c c protocol_error)
    (either c _ (faulted c flow_control_error) goes (fault c c flow_control_error) (data_answers c (used c k) s k size end r))

reset_answers : (c : Core) (s code : ℕ) (r : Result Step StreamFault) → OutcomeFree c (reset_answered c s code r)
reset_answers c s code (Ok step.Goes) = tt
reset_answers c s code (Ok step.New) = tt
reset_answers c s code (Ok step.Ignored) = tt
reset_answers c s code (Err why) = refusal c c why

window_grows : (c : Core) (s k : ℕ) (o : Option Windows) → OutcomeFree c (stream_grows c s k o)
window_grows c s k None = tt
window_grows c s k (Some w) =
    either c _ (broken c s flow_control_error) (outcome (record c { flow = granted_on c.flow s k }) found.Silent) tt tt

window_answers : (c : Core) (s k : ℕ) (r : Result Step StreamFault) → OutcomeFree c (stream_answered c s k r)
window_answers c s k (Ok step.Goes) =
    either c (k == 0) (broken c s protocol_error) (stream_grows c s k (get c.flow.streams s)) tt
    (window_grows c s k (get c.flow.streams s))
window_answers c s k (Ok step.New) = tt
window_answers c s k (Ok step.Ignored) = tt
window_answers c s k (Err why) = refusal c c why

window_free : (c : Core) (s k : ℕ) → OutcomeFree c (on_window c s k)
window_free c s k =
    let r = answer_of c.streams window_update_kind s in
    either c (s == 0) (connection_grows c k) (stream_answered c s k r)
    (either c _ (faulted c flow_control_error) (outcome (record c { flow = granted c.flow k }) found.Silent) (fault c c flow_control_error)
    tt)
    (window_answers c s k r)

applied_free : (b c : Core) (fits : Bool) → OutcomeFree b (applied c fits)
applied_free b c true = tt
applied_free b c false = fault b c _

settings_by : (b : Bool) (c : Core) (pairs : List (ℕ × ℕ)) (new : Core) (told : Found) → SettlesBy b c pairs new told → IsFree told c new
settings_by true c pairs new told is = given c _ new told (fault c c _) is
settings_by false c pairs new told is = given c _ new told (applied_free c is.0 is.1) is.3

settings_free : (ack : Bool) (c : Core) (payload : List ℕ) (new : Core) (told : Found) → DoesSettings ack c payload new told
    → IsFree told c new
settings_free true c payload new told is = given c (outcome c found.Silent) new told tt is
settings_free false c payload new told is = settings_by _ c _ new told is

-- CONTINUATION in its place is of the block that is open
abbrev IsPlaced : Core → Glance → Type 0
IsPlaced c (glance.Continuation s whole) = (opening_of c.blocks.opening).stream ≡ s
IsPlaced c g = ⊤

continues : (o : Option Opening) (s : ℕ) (whole : Bool) → places.goes_on o (glance.Continuation s whole) ≡ true
    → (opening_of o).stream ≡ s
continues None s whole is = absurd (false≢true is)
continues (Some opening) s whole is = sym (eqb-true s opening.stream is)

in_place : (late on : Bool) → (late || not on) ≡ false → on ≡ true
in_place true on is = absurd (false≢true (sym is))
in_place false true is = refl
in_place false false is = absurd (false≢true (sym is))

placed : (c : Core) (g : Glance) → is_misplaced c g ≡ false → IsPlaced c g
placed c (glance.Continuation s whole) is =
    continues c.blocks.opening s whole
    (in_place (not c.settled && not (is_settings (glance.Continuation s whole)))
    (places.goes_on c.blocks.opening (glance.Continuation s whole)) is)
placed c g is = tt

answers_free : (c : Core) (g : Glance) (bytes : List ℕ) (new : Core) (told : Found) → IsInRange g → IsPlaced c g
    → Answers c g bytes new told → IsFree told c new
answers_free c glance.Nothing bytes new told fits at is = given c _ new told tt is
answers_free c (glance.Data s k end) bytes new told fits at is = given c _ new told (data_free c s k _ end) is
answers_free c (glance.Headers s end whole) bytes new told fits at is =
    does_block s _ c new told fits (joined_of (record { stream = s; end_stream = end }) [] bytes whole) is
answers_free c (glance.Reset s code) bytes new told fits at is = given c _ new told (reset_answers c s code _) is
answers_free c (glance.Settings ack) bytes new told fits at is = settings_free ack c bytes new told is
answers_free c (glance.Ping ack value) bytes new told fits at is =
    given c (does c (glance.Ping ack value) bytes) new told
    (either c ack (outcome c found.Silent) (outcome (sent c (ping_ack value)) found.Silent) tt tt) is
answers_free c (glance.GoAway last) bytes new told fits at is = given c _ new told tt is
answers_free c (glance.Window s k) bytes new told fits at is = given c _ new told (window_free c s k) is
answers_free c (glance.Continuation s whole) bytes new told fits at is =
    does_block s _ c new told fits
    (subst (λ (n : ℕ). IsOf n (blocks.continued c.blocks bytes whole)) at
    (joined_of (opening_of c.blocks.opening) c.blocks.block bytes whole)) is
answers_free c glance.Other bytes new told fits at is = given c _ new told tt is
answers_free c (glance.Refused code row kind flags) bytes new told fits at is = given c _ new told (fault c c code) is

pub frame_free : (c : Core) (g : Glance) (bytes : List ℕ) (new : Core) (told : Found) → IsInRange g → Handles c g bytes new told
    → IsFree told c new
frame_free c g bytes new told fits handles = by (is_misplaced c g) refl handles
  where
    by : (b : Bool) → is_misplaced c g ≡ b → HandlesBy b c g bytes new told → IsFree told c new
    by true is handles = given c _ new told (fault c c protocol_error) handles
    by false is handles = answers_free c g bytes new told fits (placed c g is) handles
