-- Room of the output also for what the DATA that comes may need to be granted again, and what a caller that leaves it keeps.
use Rattle.std.proofs.Common.{◌≡◌, ◌⊎◌, inl, inr, ⊎_elim, ℕ, ◌+◌, ◌*◌, ◌<◌, ◌≤◌, Bool, true, false, cond, min, List, [], ◌∷◌, ◌++◌, length, take, Option, Some, None, Result, Ok, Err, refl, ap, ◌∙◌, subst, arith, length-append, length-take, length-drop}
use Rattle.std.specs.Prelude.{nat_lt, slice_range}
use Rattle.std.proofs.lemmas.Bool.Decides.{nat_tests}
use Rattle.hb_frames.specs.RawFrame.{raw_at, size_at}
use Rattle.hb_frames.specs.Refusals.{first_refusal}
use Rattle.hb_frames.specs.Reading.{Reading, first_of, unless_refused, too_long, asked, after_frame}
use Rattle.hb_frames.specs.Reading.{space_of as reader_space}
use Rattle.hb_frames.specs.declared.refusal.Refusal.{Refusal}
use Rattle.hb_frames.proofs.Runs.{first_some}
use Rattle.hb_frames.specs.Numbers.{protocol_error, largest}
use Rattle.hb_streams.specs.Sides.{sides_of}
use Rattle.hb_streams.specs.States.{state_of}
use Rattle.hb_conn.specs.Glance.{glance_by}
use Rattle.hb_conn.specs.Outcome.{Gives}
use Rattle.hb_conn.specs.Faults.{faulted}
use Rattle.hb_conn.specs.Places.{is_misplaced}
use Rattle.hb_conn.specs.Handling.{HandlesBy, Handles}
use Rattle.hb_conn.specs.Observed.{room, OwesNoneWithRoom, is_over, credited}
use Rattle.hb_conn.specs.Preface.{is_whole}
use Rattle.hb_conn.specs.Credit.{used_on}
use Rattle.hb_conn.specs.Data.{credited_on}
use Rattle.hb_conn.specs.Receiving.{pauses, Steps, Passes, Ends, waits, lacks, tells}
use Rattle.hb_conn.specs.Connection.{Connection, Finds, FindsWhile, FindsOf, FindsAfter, FindsBy, count_of, front_of, taken}
use Rattle.hb_conn.specs.declared.machine.Core.{Core}
use Rattle.hb_conn.specs.declared.receiver.Receiver.{Receiver}
use Rattle.hb_conn.specs.declared.found.Found.{Found}
use Rattle.hb_conn.specs.declared.found.Found.TheVariants.{Silent, Chunk}
use Rattle.hb_conn.specs.declared.glance.Glance.{Glance}
use Rattle.hb_conn.specs.declared.glance.Glance.TheVariants.{Refused}
use Rattle.hb_history.specs.Budget.{most, goaway_of, HoldsNoFrame, credit_by, credit_most_of, credit_most, HasRoom}
use Rattle.hb_history.proofs.Budget.{spans, range_len, finds_within, takes_within}
use Rattle.hb_history.proofs.CatchUpAnswers.{lowers_by}
use Rattle.hb_history.proofs.CatchUpHandlers.{credited_lowers}
use Rattle.hb_history.proofs.CatchUpSeen.{none_there}

-- octets that are taken

credit_behind : (max : ℕ) (held more : List ℕ) (found : Result (Option ℕ) Refusal) → first_of max held ≡ Ok None
    → first_of max (held ++ more) ≡ found
    → credit_by (length (held ++ more)) found ≤ 2 * length more + 13
credit_behind max held more (Ok None) none is = omega arith
credit_behind max held more (Err refusal) none is = omega arith
credit_behind max held more (Ok (Some n)) none is =
    omega (arith, length-append held more, spans max n held more none is)

-- the DATA of n octets that are taken behind frames that were looked at may need 2 * n octets of credit, and 13
credit_within : (c : Connection) (piece : List ℕ) → HoldsNoFrame c → credit_most (taken c piece) ≤ 2 * length piece + 13
credit_within c piece none =
    let r = c.receiver.reader in
    let part = slice_range piece (front_of c piece) (count_of c piece) in
    let count = min (length part) (reader_space r) in
    let within = credit_behind r.max r.held (take count part) (first_of r.max (r.held ++ take count part)) (none_there r none.0) refl in
    omega (arith, within, length-take count part, range_len piece (front_of c piece) (count_of c piece))

-- so there is room for octets of which a fifth of the room above 320 is asked
pub taken_fits : (c : Connection) (piece : List ℕ) → HoldsNoFrame c → 5 * length piece + 320 ≤ room c → HasRoom (taken c piece)
taken_fits c piece none enough = omega (arith, takes_within c piece none, credit_within c piece none, enough)

-- less than the longest frame is held where no whole one is
held_by : (short long partial : Bool) (refused : Option Refusal) (m : ℕ)
    → cond short (Ok None) (cond long (Err too_long) (cond partial (Ok None) (unless_refused refused m))) ≡ Ok None
    → (short ≡ true) ⊎ ((long ≡ false) × (partial ≡ true))
held_by true long partial refused m e = inl refl
held_by false true partial refused m e = absurd (cc)
held_by false false true refused m e = inr (refl, refl)
held_by false false false (Some r) m e = absurd (cc)
held_by false false false None m e = absurd (cc)

pub has_space : (r : Reading) → first_of r.max r.held ≡ Ok None → 0 < reader_space r
has_space r none = ⊎_elim
    (λ (h : nat_lt (length r.held) 9 ≡ true). let few : length r.held < 9 = grind (arith, nat_tests, h) in omega (arith, few))
    (λ (h : (nat_lt r.max (size_at r.held) ≡ false) × (nat_lt (length r.held) (9 + size_at r.held) ≡ true)).
    let within : size_at r.held ≤ r.max = grind (arith, nat_tests, h.0) in
    let few : length r.held < 9 + size_at r.held = grind (arith, nat_tests, h.1) in
    omega (arith, within, few))
    (held_by (nat_lt (length r.held) 9) (nat_lt r.max (size_at r.held)) (nat_lt (length r.held) (9 + size_at r.held))
    (first_refusal (raw_at r.held)) (9 + size_at r.held) none)

-- frames that are looked at

bound_by : (r : Reading) (found : Result (Option ℕ) Refusal) → first_of r.max r.held ≡ found
    → credit_by (length r.held) found ≤ 2 * length r.held
bound_by r (Ok None) is = omega arith
bound_by r (Ok (Some n)) is = let t = first_some r.max n r.held is in omega (arith, t.size, t.whole)
bound_by r (Err refusal) is = omega arith

bound : (r : Reading) → credit_most_of r ≤ 2 * length r.held
bound r = bound_by r (first_of r.max r.held) refl

-- what is put at most for the DATA that is told
abbrev pub needs : Found → ℕ
needs (Chunk s end) = 13
needs _ = 0

few_needed : (told : Found) → needs told ≤ 13
few_needed (Chunk s end) = omega arith
few_needed told = omega arith

-- a connection error needs none
fault_needs : (c new : Core) (told : Found) (code : ℕ) → Gives (faulted c code) new told → needs told ≡ 0
unfolding faulted
fault_needs c new told code gives = ap needs gives.1

refused_needs : (misplaced : Bool) (c new : Core) (bytes : List ℕ) (told : Found) (code row kind flags : ℕ)
    → HandlesBy misplaced c (Refused code row kind flags) bytes new told → needs told ≡ 0
refused_needs true c new bytes told code row kind flags handles = fault_needs c new told protocol_error handles
refused_needs false c new bytes told code row kind flags handles = fault_needs c new told code handles

-- with all that is told, what may still be needed falls by what that needs
abbrev Falls : Receiver → Receiver → Found → Type 0
Falls old new told = credit_most_of new.reader + needs told ≤ credit_most_of old.reader

falls_by : (old new : Receiver) (told : Found) (found : Result (Option ℕ) Refusal) → first_of old.reader.max old.reader.held ≡ found
    → Steps old new told → Falls old new told
falls_by old new told (Ok None) is steps = absurd (steps.whole (ap (glance_by old.reader) is))
falls_by old new told (Ok (Some n)) is steps =
    let held = ap (λ (r : Reading). length r.held) (steps.reader ∙ ap (after_frame old.reader) is) ∙ length-drop n old.reader.held in
    let before = ap (credit_by (length old.reader.held)) is in
    omega (arith, bound new.reader, held, before, few_needed told)
falls_by old new told (Err refusal) is steps =
    let seen = ap (glance_by old.reader) is in
    let g = glance_by old.reader (Err refusal) in
    let none = refused_needs (is_misplaced old.core g) old.core new.core (asked old.reader).last told _ _ _ _
    (subst (λ (g : Glance). Handles old.core g (asked old.reader).last new.core told) seen steps.handled) in
    let same = ap credit_most_of (steps.reader ∙ ap (after_frame old.reader) is) in
    omega (arith, none, same)

step_falls : (old new : Receiver) (told : Found) → Steps old new told → Falls old new told
step_falls old new told steps = falls_by old new told (first_of old.reader.max old.reader.held) refl steps

passes_fall : (through : List Receiver) (old last : Receiver) → Passes through old last
    → credit_most_of last.reader ≤ credit_most_of old.reader
passes_fall [] old last passes = omega (arith, ap (λ (r : Receiver). credit_most_of r.reader) passes)
passes_fall (mid ∷ through) old last passes =
    omega (arith, step_falls old mid Silent passes.0, passes_fall through mid last passes.1)

ends_fall : (last new : Receiver) (told : Found) → Ends last new told → Falls last new told
ends_fall last new told (waits paused is silent) =
    omega (arith, ap (λ (r : Receiver). credit_most_of r.reader) is, ap needs silent)
ends_fall last new told (lacks goes none is silent) =
    let same = ap (λ (r : Receiver). credit_most_of r.reader) is in
    let asked_same = ap credit_most_of (ap (after_frame last.reader) (none_there last.reader none)) in
    omega (arith, same, asked_same, ap needs silent)
ends_fall last new told (tells steps loud) = step_falls last new told steps

fall_by : (same : Bool) (c d : Connection) (told : Found) → FindsBy same c d told → Falls c.receiver d.receiver told
fall_by true c d told finds =
    omega (arith, passes_fall finds.0.through c.receiver finds.0.last finds.0.passes, ends_fall finds.0.last d.receiver told finds.0.ends)
fall_by false c d told finds =
    let none = fault_needs c.receiver.core d.receiver.core told protocol_error finds.0 in
    let same = ap (λ (k : Connection). credit_most k) finds.1 in
    omega (arith, none, same)

fall_same : (c d : Connection) (told : Found) → d.receiver ≡ c.receiver → needs told ≡ 0 → Falls c.receiver d.receiver told
fall_same c d told is none = omega (arith, ap (λ (r : Receiver). credit_most_of r.reader) is, none)

fall_after : (whole : Bool) (c d : Connection) (told : Found) → FindsAfter whole c d told → Falls c.receiver d.receiver told
fall_after true c d told finds = fall_by c.preface.same c d told finds
fall_after false c d told finds = fall_same c d told (ap (λ (k : Connection). k.receiver) finds.0) (ap needs finds.1)

fall_of : (ended : Option ℕ) (c d : Connection) (told : Found) → FindsOf ended c d told → Falls c.receiver d.receiver told
fall_of (Some s) c d told finds = fall_same c d told (ap (λ (k : Connection). k.receiver) finds.0) (ap needs finds.1)
fall_of None c d told finds = fall_after (is_whole c.preface) c d told finds

fall_while : (paused : Bool) (c d : Connection) (told : Found) → FindsWhile paused c d told → Falls c.receiver d.receiver told
fall_while true c d told finds = fall_same c d told (ap (λ (k : Connection). k.receiver) finds.0) (ap needs finds.1)
fall_while false c d told finds = fall_of c.ended c d told finds

-- behind all that is found there is room for what it needs
pub look_fits : (c d : Connection) (told : Found) → HasRoom c → OwesNoneWithRoom c → Finds c d told → is_over d ≡ false
    → most d + credit_most d + needs told + 256 ≤ room d
look_fits c d told fits caught finds over =
    let goaway : goaway_of d.receiver.core ≡ 0 = ap (λ b. cond b 17 0) over in
    omega (arith, fits, finds_within c d told caught finds, fall_while (pauses c.receiver.core) c d told finds, goaway)

-- octets of DATA that are used up lower the room by a WINDOW_UPDATE at most
pub used_lowers : (c : Connection) (stream n : ℕ) → stream ≤ largest → 30 ≤ room c → OwesNoneWithRoom c
    → room c ≤ room (credited c stream n) + 13
used_lowers c stream n number enough caught =
    let core = c.receiver.core in
    let clear = caught (omega (arith, enough)) in
    let u = used_on core stream n in
    let put = credited_lowers u stream number enough clear in
    (lowers_by 13 (sides_of (state_of core.streams stream)).peer core (credited_on u stream) u
    (record { room = put.room; clear = put.clear }) (record { room = omega arith; clear = clear })).room
