-- Behind a stream that is opened there is room for its refusal.
use Rattle.std.proofs.Common.{◌≡◌, ℕ, ◌+◌, ◌*◌, ◌≤◌, Bool, true, false, cond, List, [], ◌∷◌, length, Option, Some, None, Result, Ok, Err, refl, ap, sym, ◌∙◌, subst, arith, length-drop}
use Rattle.std.proofs.lemmas.Bool.{false≢true}
use Rattle.hb_conn.specs.Connection.{Connection, core_of, Finds, FindsWhile, FindsOf, FindsAfter, FindsBy}
use Rattle.hb_conn.specs.Glance.{glance_by, glance_of}
use Rattle.hb_conn.specs.Faults.{faulted}
use Rattle.hb_conn.specs.Handling.{HandlesBy, Handles}
use Rattle.hb_conn.specs.Laws.{IsCaughtUp}
use Rattle.hb_conn.specs.Observed.{is_over, is_paused}
use Rattle.hb_conn.specs.Outcome.{Gives}
use Rattle.hb_conn.specs.Places.{is_misplaced}
use Rattle.hb_conn.specs.Preface.{is_whole}
use Rattle.hb_conn.specs.Receiving.{pauses, Steps, Passes, Ends, waits, lacks, tells}
use Rattle.hb_conn.specs.declared.found.Found.{Found}
use Rattle.hb_conn.specs.declared.found.Found.TheVariants as found
use Rattle.hb_conn.specs.declared.glance.Glance.{Glance}
use Rattle.hb_conn.specs.declared.glance.Glance.TheVariants.{Refused}
use Rattle.hb_conn.specs.declared.machine.Core.{Core}
use Rattle.hb_conn.specs.declared.receiver.Receiver.{Receiver}
use Rattle.hb_frames.proofs.Runs.{first_some}
use Rattle.hb_frames.specs.Numbers.{largest, protocol_error}
use Rattle.hb_frames.specs.Reading.{Reading, first_of, asked, after_frame}
use Rattle.hb_frames.specs.declared.refusal.Refusal.{Refusal}
use Rattle.hb_history.specs.Budget.{most_by, most_of, goaway_of, credit_by, credit_most_of}
use Rattle.hb_history.proofs.CatchUpHandlers.{handles_cost}
use Rattle.hb_history.proofs.CatchUpSeen.{goes, in_range}
use Rattle.hb_kept.specs.Kept.{Fares}
use Rattle.hb_outgoing.specs.Waiting.{room_of}
use Rattle.hb_link.specs.Asking.{HasSpare}
use Rattle.hb_link.proofs.Handled.{IsFree, frame_free}

-- what the frames held may still need
abbrev needed : Reading → ℕ
needed r = most_of r + credit_most_of r

bound_by : (r : Reading) (found : Result (Option ℕ) Refusal) → first_of r.max r.held ≡ found
    → most_by (length r.held) found + credit_by (length r.held) found ≤ 5 * length r.held
bound_by r (Ok None) is = omega arith
bound_by r (Ok (Some n)) is = let t = first_some r.max n r.held is in omega (arith, t.size, t.whole)
bound_by r (Err refusal) is = omega arith

bound : (r : Reading) → needed r ≤ 5 * length r.held
bound r = bound_by r (first_of r.max r.held) refl

-- what is left over where a stream is opened
abbrev spare : Found → ℕ
spare (found.Opened s end) = 39
spare _ = 0

-- the room falls by no more than what may still be needed falls
record Leaves (old new : Receiver) (told : Found) : Type 0 where
  room : room_of old.core.out + needed new.reader + spare told ≤ room_of new.core.out + needed old.reader
  caught : IsCaughtUp new.core

spends : (told : Found) (c new : Core) → IsFree told c new → room_of c.out ≤ room_of new.out + 26
    → room_of c.out + spare told ≤ room_of new.out + 39
spends (found.Opened s end) c new free cost = omega (arith, free.1)
spends (found.Ended s) c new free cost = omega (arith, cost)
spends found.Silent c new free cost = omega (arith, cost)
spends (found.Chunk s end) c new free cost = omega (arith, cost)
spends (found.Reset s code) c new free cost = omega (arith, cost)
spends (found.Broken s code) c new free cost = omega (arith, cost)
spends (found.GoneAway last) c new free cost = omega (arith, cost)
spends (found.Fault code) c new free cost = omega (arith, cost)

-- what is refused ends all
fault_over : (c new : Core) (told : Found) (code : ℕ) → Gives (faulted c code) new told → new.over ≡ true
unfolding faulted
fault_over c new told code gives = ap (λ (x : Core). x.over) gives.0

refused_over : (b : Bool) (c new : Core) (bytes : List ℕ) (told : Found) (code row kind flags : ℕ)
    → HandlesBy b c (Refused code row kind flags) bytes new told → new.over ≡ true
refused_over true c new bytes told code row kind flags handles = fault_over c new told protocol_error handles
refused_over false c new bytes told code row kind flags handles = fault_over c new told code handles

step_by : (old new : Receiver) (told : Found) (found : Result (Option ℕ) Refusal) → first_of old.reader.max old.reader.held ≡ found
    → Steps old new told → IsCaughtUp old.core → new.core.over ≡ false → Leaves old new told
step_by old new told (Ok None) is steps caught over = absurd (steps.whole (ap (glance_by old.reader) is))
step_by old new told (Ok (Some n)) is steps caught over =
    let there = goes old.core steps.goes in
    let clear = caught (omega (arith, there.room)) in
    let range = in_range old.reader in
    let cost = handles_cost (glance_of old.reader) old.core new.core _ told range steps.handled (omega (arith, there.room)) clear in
    let none : goaway_of new.core ≡ 0 = ap (λ b. cond b 17 0) over in
    let paid = spends told old.core new.core (frame_free old.core (glance_of old.reader) _ new.core told range steps.handled)
    (omega (arith, cost.room, none)) in
    let held = ap (λ (r : Reading). length r.held) (steps.reader ∙ ap (after_frame old.reader) is) ∙ length-drop n old.reader.held in
    let before = ap (most_by (length old.reader.held)) is in
    let credit = ap (credit_by (length old.reader.held)) is in
    record { room = omega (arith, paid, bound new.reader, held, before, credit); caught = λ _. cost.clear }
step_by old new told (Err refusal) is steps caught over =
    let seen = ap (glance_by old.reader) is in
    let g = glance_by old.reader (Err refusal) in
    let ends = refused_over (is_misplaced old.core g) old.core new.core (asked old.reader).last told _ _ _ _
    (subst (λ (g : Glance). Handles old.core g (asked old.reader).last new.core told) seen steps.handled) in
    absurd (false≢true (sym over ∙ ends))

step_leaves : (old new : Receiver) (told : Found) → Steps old new told → IsCaughtUp old.core → new.core.over ≡ false → Leaves old new told
step_leaves old new told steps caught over = step_by old new told (first_of old.reader.max old.reader.held) refl steps caught over

-- frames of which nothing is told, and one that opens a stream
then_leaves : (old mid new : Receiver) (told : Found) → Leaves old mid found.Silent → Leaves mid new told → Leaves old new told
then_leaves old mid new told first last = record { room = omega (arith, first.room, last.room); caught = last.caught }

not_over : (c : Core) → pauses c ≡ false → c.over ≡ false
not_over c is = (goes c is).over

passes_over : (through : List Receiver) (mid last : Receiver) → last.core.over ≡ false → Passes through mid last → mid.core.over ≡ false
passes_over [] mid last over passes = subst (λ (r : Receiver). r.core.over ≡ false) passes over
passes_over (next ∷ more) mid last over passes = not_over mid.core passes.0.goes

passed : (through : List Receiver) (old last new : Receiver) (told : Found) → Passes through old last → last.core.over ≡ false
    → (IsCaughtUp last.core → Leaves last new told) → IsCaughtUp old.core → Leaves old new told
passed [] old last new told passes over behind caught =
    subst (λ (r : Receiver). Leaves r new told) passes (behind (subst (λ (r : Receiver). IsCaughtUp r.core) (sym passes) caught))
passed (mid ∷ more) old last new told passes over behind caught =
    let first = step_leaves old mid found.Silent passes.0 caught (passes_over more mid last over passes.1) in
    then_leaves old mid new told first (passed more mid last new told passes.1 over behind first.caught)

-- what is told where a stream is opened: by a frame that was looked at behind others
record Opens (s : ℕ) (old new : Receiver) : Type 0 where
  leaves : IsCaughtUp old.core → new.core.over ≡ false
      → room_of old.core.out + needed new.reader + 39 ≤ room_of new.core.out + needed old.reader
  number : s ≤ largest

opens_last : (s : ℕ) (end : Bool) (last new : Receiver) → Steps last new (found.Opened s end) → s ≤ largest
opens_last s end last new steps =
    (frame_free last.core (glance_of last.reader) _ new.core (found.Opened s end) (in_range last.reader) steps.handled).0

receives : (s : ℕ) (end : Bool) (through : List Receiver) (old last new : Receiver) → Passes through old last
    → Ends last new (found.Opened s end) → Opens s old new
receives s end through old last new passes (waits paused is silent) = absurd (cc)
receives s end through old last new passes (lacks on none is silent) = absurd (cc)
receives s end through old last new passes (tells steps loud) = record {
  leaves = λ caught over.
      (passed through old last new (found.Opened s end) passes (not_over last.core steps.goes)
      (λ there. step_leaves last new (found.Opened s end) steps there over) caught).room;
  number = opens_last s end last new steps;
}

never_faults : {A : Type 0} → (c new : Core) (s code : ℕ) (end : Bool) → Gives (faulted c code) new (found.Opened s end) → A
unfolding faulted
never_faults c new s code end gives = absurd (let never = gives.1 in cc)

opens_by : (s : ℕ) (end same : Bool) (c d : Connection) → FindsBy same c d (found.Opened s end) → Opens s c.receiver d.receiver
opens_by s end true c d finds = receives s end finds.0.through c.receiver finds.0.last d.receiver finds.0.passes finds.0.ends
opens_by s end false c d finds = never_faults (core_of c) (core_of d) s protocol_error end finds.0

opens_after : (s : ℕ) (end whole : Bool) (c d : Connection) → FindsAfter whole c d (found.Opened s end) → Opens s c.receiver d.receiver
opens_after s end true c d finds = opens_by s end c.preface.same c d finds
opens_after s end false c d finds = absurd (let never = finds.1 in cc)

opens_of : (s : ℕ) (end : Bool) (ended : Option ℕ) (c d : Connection) → FindsOf ended c d (found.Opened s end)
    → Opens s c.receiver d.receiver
opens_of s end (Some stream) c d finds = absurd (let never = finds.1 in cc)
opens_of s end None c d finds = opens_after s end (is_whole c.preface) c d finds

opens_while : (s : ℕ) (end paused : Bool) (c d : Connection) → FindsWhile paused c d (found.Opened s end) → Opens s c.receiver d.receiver
opens_while s end true c d finds = absurd (let never = finds.1 in cc)
opens_while s end false c d finds = opens_of s end c.ended c d finds

-- it has a number of 31 bits, and room for its refusal
pub opened_fits : (c d : Connection) (s : ℕ) (end : Bool) → Fares c → Finds c d (found.Opened s end) → is_over d ≡ false
    → (s ≤ largest) × HasSpare d
opened_fits c d s end fares finds over =
    let opens = opens_while s end (is_paused c) c d finds in
    (opens.number, omega (arith, opens.leaves fares.kept.caught_up over, fares.has_room))

-- no frame tells an end: only one that was told of before is
ends_last : (s : ℕ) (last new : Receiver) → Ends last new (found.Ended s) → ⊥
ends_last s last new (waits paused is silent) = cc
ends_last s last new (lacks on none is silent) = cc
ends_last s last new (tells steps loud) =
    frame_free last.core (glance_of last.reader) _ new.core (found.Ended s) (in_range last.reader) steps.handled

fault_ends : (c new : Core) (s code : ℕ) → Gives (faulted c code) new (found.Ended s) → ⊥
unfolding faulted
fault_ends c new s code gives = let never = gives.1 in cc

pub end_was_told : (c d : Connection) (s : ℕ) → Finds c d (found.Ended s) → (c.ended ≡ Some s) × (d ≡ record c { ended = None })
end_was_told c d s finds = by (is_paused c) finds
  where
    same_end : (k : ℕ) → found.Ended s ≡ found.Ended k → k ≡ s
    same_end k is = cc

    first : (same : Bool) → FindsBy same c d (found.Ended s) → ⊥
    first true finds = ends_last s finds.0.last d.receiver finds.0.ends
    first false finds = fault_ends (core_of c) (core_of d) s protocol_error finds.0

    after : (whole : Bool) → FindsAfter whole c d (found.Ended s) → ⊥
    after true finds = first c.preface.same finds
    after false finds = let never = finds.1 in cc

    of : (o : Option ℕ) → c.ended ≡ o → FindsOf o c d (found.Ended s) → (c.ended ≡ Some s) × (d ≡ record c { ended = None })
    of (Some k) is finds = (is ∙ ap Some (same_end k finds.1), finds.0)
    of None is finds = absurd (after (is_whole c.preface) finds)

    by : (paused : Bool) → FindsWhile paused c d (found.Ended s) → (c.ended ≡ Some s) × (d ≡ record c { ended = None })
    by true finds = absurd (let never = finds.1 in cc)
    by false finds = of c.ended refl finds
