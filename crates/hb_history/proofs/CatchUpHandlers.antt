-- What each frame's answer takes of the room.
use Rattle.std.proofs.Common.{◌≡◌, inl, inr, ℕ, ◌≤◌, Bool, true, false, cond, List, [], ◌∷◌, length, Option, Some, None, Result, Ok, Err, refl, ap, sym, ◌∙◌, subst, arith}
use Rattle.std.specs.Prelude.{◌==◌, ◌/◌, ◌%◌, nat_lt, pos, ◌+ℤ◌, int_lt}
use Rattle.std.proofs.Common.{length-append}
use Rattle.std.specs.FinMap.{get}
use Rattle.hb_outgoing.specs.Waiting.{room_of}
use Rattle.hb_frames.specs.Numbers.{data_kind, headers_kind, rst_stream_kind, window_update_kind, max_concurrent_streams}
use Rattle.hb_frames.specs.Numbers.{initial_window_size, max_frame_size, protocol_error, flow_control_error, largest}
use Rattle.hb_streams.specs.Answers.{answer_of}
use Rattle.hb_streams.specs.declared.step.Step.{Step}
use Rattle.hb_streams.specs.declared.step.Step.TheVariants as step
use Rattle.hb_streams.specs.declared.fault.StreamFault.{StreamFault}
use Rattle.hb_flow.specs.Windows.{Windows, counted, due_of}
use Rattle.hb_flow.specs.Flows.{took, owed, due_on}
use Rattle.hb_flow.specs.Sizes.{unbegun_on}
use Rattle.hb_frames.specs.Refusals.{settings}
use Rattle.hb_blocks.specs.Assembly.{Progress, begun as block_begun, continued as block_continued}
use Rattle.hb_blocks.specs.declared.fault.BlockFault.{BlockFault}
use Rattle.hb_blocks.specs.declared.whole.Whole.{Whole}
use Rattle.hb_blocks.specs.Faults.{code_of}
use Rattle.hb_owed.specs.Debts.{dues}
use Rattle.hb_conn.specs.Frames.{word, window_update, ping_ack, settings_ack}
use Rattle.hb_conn.specs.Faults.{faulted, broken}
use Rattle.hb_conn.specs.Outcome.{Outcome, Gives}
use Rattle.hb_conn.specs.Data.{updated, credited_on, used, padded, continued, data_goes, data_answered, is_of_idle, on_data}
use Rattle.hb_conn.specs.Windows.{unbegun, connection_grows, stream_grows, stream_answered, on_window}
use Rattle.hb_conn.specs.Resets.{peer_reset, reset_answered}
use Rattle.hb_conn.specs.Ping.{on_ping}
use Rattle.hb_conn.specs.Settings.{noted, AppliesBy, Then, AppliesAll, applied, allows_push, SettlesBy, DoesSettings}
use Rattle.hb_conn.specs.Headers.{headed, headers_answered, block_told, DoesBlock}
use Rattle.hb_conn.specs.Headers.{begun as stream_begun}
use Rattle.hb_conn.specs.Places.{is_misplaced}
use Rattle.hb_conn.specs.Handling.{Answers, HandlesBy, Handles}
use Rattle.hb_conn.specs.Glance.{IsInRange}
use Rattle.hb_conn.specs.declared.machine.Core.{Core}
use Rattle.hb_conn.specs.declared.found.Found.{Found}
use Rattle.hb_conn.specs.declared.glance.Glance.{Glance}
use Rattle.hb_conn.specs.declared.glance.Glance.TheVariants.{Nothing, Data, Headers, Reset, Settings, Ping, GoAway, Window, Continuation, Other, Refused}
use Rattle.hb_conn.proofs.Keeping.{opening_keeps_up}
use Rattle.hb_history.proofs.CatchUpAnswers.{Lowers, Costs, costs, lowers_by, after, then, stays, sent_lowers, word_len, faulted_costs, released_lowers, update_lowers}
use Rattle.hb_history.proofs.CatchUpResets.{aborted_lowers, given_up_lowers, refused_costs}

told_by : (most : ℕ) (b : Bool) (c : Core) (x y : Outcome) → Costs most c x.core → Costs most c y.core → Costs most c (cond b x y).core
told_by most true c x y of_x of_y = of_x
told_by most false c x y of_x of_y = of_y

more : (first second : ℕ) (c d : Core) → Costs first c d → first ≤ second → Costs second c d
more first second c d cost within = record { room = omega (arith, cost.room, within); clear = cost.clear }

ends : (most : ℕ) (c : Core) (code : ℕ) → Costs most c (faulted c code).core
ends most c code = more 0 most c _ (faulted_costs c code) (omega arith)

breaks : (c : Core) (s code : ℕ) → 30 ≤ room_of c.out → dues c.owed ≡ [] → Costs 13 c (broken c s code).core
breaks c s code room clear = costs 13 13 c _ (aborted_lowers c s code room clear) (omega arith)

quiet : (most : ℕ) (c : Core) → dues c.owed ≡ [] → Costs most c c
quiet most c clear = costs 0 most c c (stays c c refl refl clear) (omega arith)

-- DATA

updated_lowers : (o : Option ℕ) (c : Core) → dues c.owed ≡ [] → Lowers 13 c (updated c o)
updated_lowers None c clear = record { room = omega arith; clear = clear }
updated_lowers (Some n) c clear = sent_lowers c (window_update 0 n) 4 (word_len n) clear

used_lowers : (c : Core) (counted : ℕ) → dues c.owed ≡ [] → Lowers 13 c (used c counted)
used_lowers c counted clear =
    let f = owed (took c.flow counted) counted in
    let put = updated_lowers (due_of f.taking) _ clear in
    record { room = put.room; clear = put.clear }

pub credited_lowers : (c : Core) (s : ℕ) → s ≤ largest → 30 ≤ room_of c.out → dues c.owed ≡ [] → Lowers 13 c (credited_on c s)
credited_lowers c s number room clear =
    let put = update_lowers (due_on c.flow s) _ s number room clear in record { room = put.room; clear = put.clear }

continued_lowers : (c : Core) (s : ℕ) (end : Bool) → s ≤ largest → 30 ≤ room_of c.out → dues c.owed ≡ [] → Lowers 13 c (continued c s end)
continued_lowers c s end number room clear =
    let gone = released_lowers _ s clear in
    lowers_by 13 end c _ _ (record { room = omega (arith, gone.room); clear = gone.clear }) (credited_lowers c s number room clear)

data_goes_costs : (o : Option Windows) (c : Core) (s counted size : ℕ) (end : Bool) → s ≤ largest → 30 ≤ room_of c.out → dues c.owed ≡ []
    → Costs 13 c (data_goes c s counted size end o).core
data_goes_costs None c s counted size end number room clear = costs 13 13 c _ (continued_lowers c s end number room clear) (omega arith)
data_goes_costs (Some w) c s counted size end number room clear =
    let goes = continued_lowers (padded c s counted size) s end number room clear in
    told_by 13 (nat_lt w.taking.granted counted) c _ _ (breaks c s flow_control_error room clear)
    (costs 13 13 c _ (record { room = goes.room; clear = goes.clear }) (omega arith))

data_answered_costs : (answer : Result Step StreamFault) (c : Core) (s counted size : ℕ) (end : Bool) → s ≤ largest → 30 ≤ room_of c.out
    → dues c.owed ≡ [] → Costs 13 c (data_answered c s counted size end answer).core
data_answered_costs (Ok step.Goes) c s counted size end number room clear =
    data_goes_costs (get c.flow.streams s) c s counted size end number room clear
data_answered_costs (Ok step.New) c s counted size end number room clear = quiet 13 c clear
data_answered_costs (Ok step.Ignored) c s counted size end number room clear = quiet 13 c clear
data_answered_costs (Err fault) c s counted size end number room clear = refused_costs c fault room clear

data_costs : (c : Core) (s counted size : ℕ) (end : Bool) → s ≤ largest → 60 ≤ room_of c.out → dues c.owed ≡ []
    → Costs 26 c (on_data c s counted size end).core
data_costs c s counted size end number room clear =
    let put = used_lowers c counted clear in
    let goes = data_answered_costs (answer_of c.streams data_kind s) (used c counted) s counted size end number
    (omega (arith, put.room, room)) put.clear in
    told_by 26 (is_of_idle (answer_of c.streams data_kind s)) c _ _ (ends 26 c protocol_error)
    (told_by 26 (nat_lt c.flow.taking.granted counted) c _ _ (ends 26 c flow_control_error) (after 13 13 c (used c counted) _ put goes))

-- WINDOW_UPDATE

grows_costs : (c : Core) (n : ℕ) → dues c.owed ≡ [] → Costs 13 c (connection_grows c n).core
grows_costs c n clear =
    told_by 13 (int_lt (pos largest) (counted c.flow.sending (unbegun c).size +ℤ pos n)) c _ _ (ends 13 c flow_control_error)
    (costs 0 13 c _ (stays c _ refl refl clear) (omega arith))

stream_grows_costs : (o : Option Windows) (c : Core) (s n : ℕ) → 30 ≤ room_of c.out → dues c.owed ≡ []
    → Costs 13 c (stream_grows c s n o).core
stream_grows_costs None c s n room clear = quiet 13 c clear
stream_grows_costs (Some w) c s n room clear =
    told_by 13 (int_lt (pos largest) (counted w.sending (unbegun_on (unbegun c).stream (unbegun c).size s) +ℤ pos n)) c _ _
    (breaks c s flow_control_error room clear) (costs 0 13 c _ (stays c _ refl refl clear) (omega arith))

window_answered_costs : (answer : Result Step StreamFault) (c : Core) (s n : ℕ) → 30 ≤ room_of c.out → dues c.owed ≡ []
    → Costs 13 c (stream_answered c s n answer).core
window_answered_costs (Err fault) c s n room clear = refused_costs c fault room clear
window_answered_costs (Ok step.Goes) c s n room clear =
    told_by 13 (n == 0) c _ _ (breaks c s protocol_error room clear) (stream_grows_costs (get c.flow.streams s) c s n room clear)
window_answered_costs (Ok step.New) c s n room clear = quiet 13 c clear
window_answered_costs (Ok step.Ignored) c s n room clear = quiet 13 c clear

window_costs : (c : Core) (s n : ℕ) → 30 ≤ room_of c.out → dues c.owed ≡ [] → Costs 13 c (on_window c s n).core
window_costs c s n room clear =
    told_by 13 (s == 0) c _ _ (grows_costs c n clear) (window_answered_costs (answer_of c.streams window_update_kind s) c s n room clear)

-- RST_STREAM and PING

reset_answered_costs : (answer : Result Step StreamFault) (c : Core) (s code : ℕ) → 30 ≤ room_of c.out → dues c.owed ≡ []
    → Costs 13 c (reset_answered c s code answer).core
reset_answered_costs (Err fault) c s code room clear = refused_costs c fault room clear
reset_answered_costs (Ok step.Goes) c s code room clear =
    let gone = given_up_lowers (peer_reset c s) s room clear in
    costs 0 13 c _ (record { room = gone.room; clear = gone.clear }) (omega arith)
reset_answered_costs (Ok step.New) c s code room clear = quiet 13 c clear
reset_answered_costs (Ok step.Ignored) c s code room clear = quiet 13 c clear

ping_len : (value : ℕ) → length (ping_ack value).payload ≡ 8
ping_len value =
    length-append (word (value / 4294967296)) (word (value % 4294967296))
    ∙ rw (word_len (value / 4294967296), word_len (value % 4294967296)) refl

ping_costs : (c : Core) (ack : Bool) (value : ℕ) → dues c.owed ≡ [] → Costs 17 c (on_ping c ack value).core
ping_costs c ack value clear =
    told_by 17 ack c _ _ (quiet 17 c clear) (costs 17 17 c _ (sent_lowers c (ping_ack value) 8 (ping_len value) clear) (omega arith))

-- SETTINGS

abbrev Same : Core → Core → Type 0
Same old new = (new.out ≡ old.out) × (new.owed ≡ old.owed)

same_by : (b : Bool) (c x y : Core) → Same c x → Same c y → Same c (cond b x y)
same_by true c x y of_x of_y = of_x
same_by false c x y of_x of_y = of_y

noted_same : (c : Core) (s : ℕ × ℕ) → Same c (noted c s)
noted_same c s =
    same_by (s.0 == max_concurrent_streams) c _ _ (refl, refl) (same_by (s.0 == max_frame_size) c _ _ (refl, refl) (refl, refl))

same_as : (c new other : Core) → new ≡ other → Same c other → Same c new
same_as c new other is same = (ap (λ (k : Core). k.out) is ∙ same.0, ap (λ (k : Core). k.owed) is ∙ same.1)

applies_same : (b fits : Bool) (c new : Core) (s : ℕ × ℕ) → AppliesBy b c s new fits → Same c new
applies_same false fits c new s applies = same_as c new _ applies.0 (noted_same c s)
applies_same true true c new s applies = same_as c new _ applies.2 (refl, refl)
applies_same true false c new s (inl large) = same_as c new _ large.1 (refl, refl)
applies_same true false c new s (inr unfit) = same_as c new _ unfit.3 (refl, refl)

then_same : (ok fits : Bool) (c mid new : Core) (s : ℕ × ℕ) (later : Type 0) → AppliesBy (s.0 == initial_window_size) c s mid ok
    → Then ok later ((new ≡ mid) × (fits ≡ false)) → (later → Same mid new) → Same c new
then_same true fits c mid new s later one then of_later =
    let first = applies_same (s.0 == initial_window_size) true c mid s one in
    let second = of_later then in (second.0 ∙ first.0, second.1 ∙ first.1)
then_same false fits c mid new s later one then of_later =
    same_as c new mid then.0 (applies_same (s.0 == initial_window_size) false c mid s one)

all_same : (pairs : List (ℕ × ℕ)) (c new : Core) (fits : Bool) → AppliesAll c pairs new fits → Same c new
all_same [] c new fits applies = same_as c new _ applies.0 (refl, refl)
all_same (s ∷ pairs) c new fits (mid, ok, one, later) =
    then_same ok fits c mid new s (AppliesAll mid pairs new fits) one later (all_same pairs mid new fits)

applied_costs : (fits : Bool) (c mid : Core) → Same c mid → dues c.owed ≡ [] → Costs 9 c (applied mid fits).core
applied_costs true c mid same clear =
    let before = stays c mid same.0 same.1 clear in
    let put = sent_lowers (record mid { settled = true }) settings_ack 0 refl before.clear in
    after 0 9 c mid _ before (costs 9 9 mid _ (record { room = put.room; clear = put.clear }) (omega arith))
applied_costs false c mid same clear = after 0 9 c mid _ (stays c mid same.0 same.1 clear) (ends 9 mid flow_control_error)

given : (most : ℕ) (c new : Core) (told : Found) (o : Outcome) → Gives o new told → Costs most c o.core → Costs most c new
given most c new told o gives cost = subst (Costs most c) (sym gives.0) cost

settles_costs : (pushes : Bool) (c new : Core) (pairs : List (ℕ × ℕ)) (told : Found) → SettlesBy pushes c pairs new told
    → dues c.owed ≡ [] → Costs 9 c new
settles_costs true c new pairs told settles clear = given 9 c new told _ settles (ends 9 c protocol_error)
settles_costs false c new pairs told (mid, fits, all, gives) clear =
    given 9 c new told _ gives (applied_costs fits c mid (all_same pairs c mid fits all) clear)

settings_costs : (ack : Bool) (c new : Core) (payload : List ℕ) (told : Found) → DoesSettings ack c payload new told → dues c.owed ≡ []
    → Costs 9 c new
settings_costs true c new payload told does clear = given 9 c new told _ does (quiet 9 c clear)
settings_costs false c new payload told does clear = settles_costs (allows_push c.streams.role (settings payload)) c new
    (settings payload) told does clear

-- HEADERS and CONTINUATION

headers_costs : (answer : Result Step StreamFault) (c : Core) (s : ℕ) (end : Bool) → 30 ≤ room_of c.out → dues c.owed ≡ []
    → Costs 13 c (headers_answered c s end answer).core
headers_costs (Ok step.New) c s end room clear =
    costs 0 13 c (stream_begun c s end)
    (record { room = omega arith; clear = opening_keeps_up (headed c s end) s (λ _. clear) (omega (arith, room)) }) (omega arith)
headers_costs (Ok step.Goes) c s end room clear =
    let gone = released_lowers (headed c s end) s clear in costs 0 13 c _ (record { room = gone.room; clear = gone.clear }) (omega arith)
headers_costs (Ok step.Ignored) c s end room clear = quiet 13 c clear
headers_costs (Err fault) c s end room clear =
    let cost = refused_costs (headed c s end) fault room clear in record { room = cost.room; clear = cost.clear }

block_costs : (told : Result (Option Whole) BlockFault) (c : Core) → 30 ≤ room_of c.out → dues c.owed ≡ []
    → Costs 13 c (block_told c told).core
block_costs (Ok None) c room clear = quiet 13 c clear
block_costs (Ok (Some whole)) c room clear =
    headers_costs (answer_of c.streams headers_kind whole.stream) c whole.stream whole.end_stream room clear
block_costs (Err fault) c room clear = ends 13 c (code_of fault)

assembly_costs : (progress : Progress) (c new : Core) (told : Found) → DoesBlock progress c new told → 30 ≤ room_of c.out
    → dues c.owed ≡ [] → Costs 13 c new
assembly_costs progress c new told (blocks, answer, makes, gives) room clear =
    let cost = block_costs answer (record c { blocks = blocks }) room clear in
    given 13 c new told _ gives (record { room = cost.room; clear = cost.clear })

-- each frame

answers_cost : (g : Glance) (c new : Core) (bytes : List ℕ) (told : Found) → IsInRange g → Answers c g bytes new told → 60 ≤ room_of c.out
    → dues c.owed ≡ [] → Costs 26 c new
answers_cost (Data s counted end) c new bytes told number answers room clear =
    given 26 c new told _ answers (data_costs c s counted (length bytes) end number room clear)
answers_cost (Headers s end whole) c new bytes told number answers room clear =
    more 13 26 c new (assembly_costs (block_begun s end bytes whole) c new told answers (omega (arith, room)) clear) (omega arith)
answers_cost (Reset s code) c new bytes told number answers room clear =
    given 26 c new told _ answers
    (more 13 26 c _ (reset_answered_costs (answer_of c.streams rst_stream_kind s) c s code (omega (arith, room)) clear) (omega arith))
answers_cost (Settings ack) c new bytes told number answers room clear = more 9 26 c new
    (settings_costs ack c new bytes told answers clear) (omega arith)
answers_cost (Ping ack value) c new bytes told number answers room clear =
    given 26 c new told _ answers (more 17 26 c _ (ping_costs c ack value clear) (omega arith))
answers_cost (GoAway last) c new bytes told number answers room clear = given 26 c new told _ answers (quiet 26 c clear)
answers_cost (Window s n) c new bytes told number answers room clear =
    given 26 c new told _ answers (more 13 26 c _ (window_costs c s n (omega (arith, room)) clear) (omega arith))
answers_cost (Continuation s whole) c new bytes told number answers room clear =
    more 13 26 c new (assembly_costs (block_continued c.blocks bytes whole) c new told answers (omega (arith, room)) clear) (omega arith)
answers_cost Nothing c new bytes told number answers room clear = given 26 c new told _ answers (quiet 26 c clear)
answers_cost Other c new bytes told number answers room clear = given 26 c new told _ answers (quiet 26 c clear)
answers_cost (Refused code row kind flags) c new bytes told number answers room clear = given 26 c new told _ answers (ends 26 c code)

handles_by : (misplaced : Bool) (g : Glance) (c new : Core) (bytes : List ℕ) (told : Found) → IsInRange g
    → HandlesBy misplaced c g bytes new told → 60 ≤ room_of c.out → dues c.owed ≡ [] → Costs 26 c new
handles_by true g c new bytes told number handles room clear = given 26 c new told _ handles (ends 26 c protocol_error)
handles_by false g c new bytes told number handles room clear = answers_cost g c new bytes told number handles room clear

-- the answer to a frame takes 26 octets at most, but for a GOAWAY
pub handles_cost : (g : Glance) (c new : Core) (bytes : List ℕ) (told : Found) → IsInRange g → Handles c g bytes new told
    → 60 ≤ room_of c.out
    → dues c.owed ≡ [] → Costs 26 c new
handles_cost g c new bytes told number handles room clear = handles_by (is_misplaced c g) g c new bytes told number handles room clear

-- and that to what is refused, or stands where it may not, none but that
pub refusal_costs : (c new : Core) (bytes : List ℕ) (told : Found) (code row kind flags : ℕ)
    → Handles c (Refused code row kind flags) bytes new told → Costs 0 c new
refusal_costs c new bytes told code row kind flags handles = by (is_misplaced c (Refused code row kind flags)) handles
  where
    by : (misplaced : Bool) → HandlesBy misplaced c (Refused code row kind flags) bytes new told → Costs 0 c new
    by true handles = given 0 c new told _ handles (faulted_costs c protocol_error)
    by false handles = given 0 c new told _ handles (faulted_costs c code)
