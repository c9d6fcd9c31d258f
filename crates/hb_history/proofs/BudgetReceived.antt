-- What the answers to all that is received take of the room.
use Rattle.std.proofs.Common.{◌≡◌, ℕ, ◌+◌, ◌*◌, ◌≤◌, Bool, true, false, cond, List, [], ◌∷◌, length, Option, Some, None, Result, Ok, Err, refl, ap, sym, ◌∙◌, subst, rules, arith, length-drop}
use Rattle.std.specs.Prelude.{slice_index}
use Rattle.hb_frames.specs.Reading.{Reading, first_of, asked, after_frame}
use Rattle.hb_frames.specs.declared.refusal.Refusal.{Refusal}
use Rattle.hb_frames.proofs.Runs.{first_some}
use Rattle.hb_outgoing.specs.Waiting.{room_of}
use Rattle.hb_frames.specs.Numbers.{protocol_error}
use Rattle.hb_conn.specs.Glance.{glance_by, glance_of}
use Rattle.hb_conn.specs.Handling.{Handles}
use Rattle.hb_conn.specs.Laws.{IsCaughtUp}
use Rattle.hb_conn.specs.Receiving.{pauses, Steps, Passes, Ends, waits, lacks, tells, Receives}
use Rattle.hb_conn.specs.Preface.{is_whole}
use Rattle.hb_conn.specs.Connection.{Connection, Finds, FindsWhile, FindsOf, FindsAfter, FindsBy}
use Rattle.hb_conn.specs.declared.machine.Core.{Core}
use Rattle.hb_conn.specs.declared.receiver.Receiver.{Receiver}
use Rattle.hb_conn.specs.declared.found.Found.{Found}
use Rattle.hb_conn.specs.declared.found.Found.TheVariants.{Silent}
use Rattle.hb_conn.specs.declared.glance.Glance.{Glance}
use Rattle.hb_conn.specs.declared.glance.Glance.TheVariants.{Nothing}
use Rattle.hb_history.specs.Budget.{most_by, most_of, goaway_of, Asked}
use Rattle.hb_history.proofs.CatchUpAnswers.{Costs, faulted_costs}
use Rattle.hb_history.proofs.CatchUpHandlers.{handles_cost, refusal_costs}
use Rattle.hb_history.proofs.CatchUpSeen.{goes, in_range, none_there}

-- the room falls by no more than what may still be answered falls, and a GOAWAY; and nothing is owed while there is room
pub record Spends (old new : Receiver) : Type 0 where
  pub room : room_of old.core.out + most_of new.reader ≤ room_of new.core.out + most_of old.reader + goaway_of new.core
  pub caught : IsCaughtUp new.core

bound_by : (r : Reading) (found : Result (Option ℕ) Refusal) → first_of r.max r.held ≡ found
    → most_by (length r.held) found ≤ 3 * length r.held
bound_by r (Ok None) is = omega arith
bound_by r (Ok (Some n)) is = let t = first_some r.max n r.held is in omega (arith, t.size, t.whole)
bound_by r (Err refusal) is = omega arith

bound : (r : Reading) → most_of r ≤ 3 * length r.held
bound r = bound_by r (first_of r.max r.held) refl

step_by : (old new : Receiver) (told : Found) (found : Result (Option ℕ) Refusal) → first_of old.reader.max old.reader.held ≡ found
    → Steps old new told → IsCaughtUp old.core → Spends old new
step_by old new told (Ok None) is steps caught = absurd (steps.whole (ap (glance_by old.reader) is))
step_by old new told (Ok (Some n)) is steps caught =
    let there = goes old.core steps.goes in
    let clear = caught (omega (arith, there.room)) in
    let cost = handles_cost (glance_of old.reader) old.core new.core _ told (in_range old.reader) steps.handled
    (omega (arith, there.room)) clear in
    let held = ap (λ (r : Reading). length r.held) (steps.reader ∙ ap (after_frame old.reader) is) ∙ length-drop n old.reader.held in
    let before = ap (most_by (length old.reader.held)) is in
    record { room = omega (arith, cost.room, bound new.reader, held, before); caught = λ _. cost.clear }
step_by old new told (Err refusal) is steps caught =
    let seen = ap (glance_by old.reader) is in
    let cost = refusal_costs old.core new.core _ told refusal.code refusal.row (slice_index old.reader.held 3)
    (slice_index old.reader.held 4)
    (subst (λ (g : Glance). Handles old.core g (asked old.reader).last new.core told) seen steps.handled) in
    let same = ap most_of (steps.reader ∙ ap (after_frame old.reader) is) in
    record { room = omega (arith, cost.room, same); caught = λ _. cost.clear }

pub step_spends : (old new : Receiver) (told : Found) → Steps old new told → IsCaughtUp old.core → Spends old new
step_spends old new told steps caught = step_by old new told (first_of old.reader.max old.reader.held) refl steps caught

spends_none : (old : Receiver) → IsCaughtUp old.core → Spends old old
spends_none old caught = record { room = omega arith; caught = caught }

-- one after the other; a GOAWAY is put once
pub spends_then : (old mid new : Receiver) → mid.core.over ≡ false → Spends old mid → Spends mid new → Spends old new
spends_then old mid new over one other =
    let none : goaway_of mid.core ≡ 0 = ap (λ b. cond b 17 0) over in
    record { room = omega (arith, one.room, other.room, none); caught = other.caught }

pub over_pauses : (c : Core) → c.over ≡ true → pauses c ≡ true
over_pauses c over = rw over refl

never_goes : {A : Type 0} → (c : Core) → c.over ≡ true → pauses c ≡ false → A
never_goes c over goes = absurd (search (rules, over_pauses c over))

passes_then : (through : List Receiver) (old mid last : Receiver) (over : Bool) → mid.core.over ≡ over → Passes through mid last
    → Spends old mid → Spends mid last → Spends old last
passes_then through old mid last false over passes one other = spends_then old mid last over one other
passes_then [] old mid last true over passes one other = subst (Spends old) (sym passes) one
passes_then (next ∷ through) old mid last true over passes one other = never_goes mid.core over passes.0.goes

passes_spend : (through : List Receiver) (old last : Receiver) → Passes through old last → IsCaughtUp old.core → Spends old last
passes_spend [] old last passes caught = subst (Spends old) (sym passes) (spends_none old caught)
passes_spend (mid ∷ through) old last passes caught =
    let one = step_spends old mid Silent passes.0 caught in
    passes_then through old mid last mid.core.over refl passes.1 one (passes_spend through mid last passes.1 one.caught)

asked_same : (r : Reading) → glance_of r ≡ Nothing → most_of (asked r) ≡ most_of r
asked_same r is = ap most_of (ap (after_frame r) (none_there r is))

ends_spend : (old new : Receiver) (told : Found) → Ends old new told → IsCaughtUp old.core → Spends old new
ends_spend old new told (waits paused is silent) caught = subst (Spends old) (sym is) (spends_none old caught)
ends_spend old new told (lacks goes none is silent) caught =
    subst (Spends old) (sym is) (record { room = omega (arith, asked_same old.reader none); caught = caught })
ends_spend old new told (tells steps not_silent) caught = step_spends old new told steps caught

ends_then : (old mid new : Receiver) (told : Found) (over : Bool) → mid.core.over ≡ over → Ends mid new told → Spends old mid
    → Spends mid new
    → Spends old new
ends_then old mid new told false over ends one other = spends_then old mid new over one other
ends_then old mid new told true over (waits paused is silent) one other = subst (Spends old) (sym is) one
ends_then old mid new told true over (lacks goes none is silent) one other = never_goes mid.core over goes
ends_then old mid new told true over (tells steps not_silent) one other = never_goes mid.core over steps.goes

receives_spend : (old new : Receiver) (told : Found) → Receives old new told → IsCaughtUp old.core → Spends old new
receives_spend old new told receives caught =
    let one = passes_spend receives.through old receives.last receives.passes caught in
    ends_then old receives.last new told receives.last.core.over refl receives.ends one
    (ends_spend receives.last new told receives.ends one.caught)

by_preface : (same : Bool) (c d : Connection) (told : Found) → FindsBy same c d told → IsCaughtUp c.receiver.core
    → Spends c.receiver d.receiver
by_preface true c d told finds caught = receives_spend c.receiver d.receiver told finds.0 caught
by_preface false c d told finds caught =
    let cost = subst (Costs 0 c.receiver.core) (sym finds.0.0) (faulted_costs c.receiver.core protocol_error) in
    let same = ap (λ (k : Connection). most_of k.receiver.reader) finds.1 in
    record { room = omega (arith, cost.room, same); caught = λ _. cost.clear }

spends_same : (c d : Connection) → d.receiver ≡ c.receiver → IsCaughtUp c.receiver.core → Spends c.receiver d.receiver
spends_same c d is caught = subst (Spends c.receiver) (sym is) (spends_none c.receiver caught)

after_preface : (whole : Bool) (c d : Connection) (told : Found) → FindsAfter whole c d told → IsCaughtUp c.receiver.core
    → Spends c.receiver d.receiver
after_preface true c d told finds caught = by_preface c.preface.same c d told finds caught
after_preface false c d told finds caught = spends_same c d (ap (λ (k : Connection). k.receiver) finds.0) caught

of_ended : (ended : Option ℕ) (c d : Connection) (told : Found) → FindsOf ended c d told → IsCaughtUp c.receiver.core
    → Spends c.receiver d.receiver
of_ended (Some stream) c d told finds caught = spends_same c d (ap (λ (k : Connection). k.receiver) finds.0) caught
of_ended None c d told finds caught = after_preface (is_whole c.preface) c d told finds caught

while_goes : (paused : Bool) (c d : Connection) (told : Found) → FindsWhile paused c d told → IsCaughtUp c.receiver.core
    → Spends c.receiver d.receiver
while_goes true c d told finds caught = spends_same c d (ap (λ (k : Connection). k.receiver) finds.0) caught
while_goes false c d told finds caught = of_ended c.ended c d told finds caught

pub finds_spend : (c d : Connection) (told : Found) → Finds c d told → IsCaughtUp c.receiver.core → Spends c.receiver d.receiver
finds_spend c d told finds caught = while_goes (pauses c.receiver.core) c d told finds caught

-- while a connection pauses nothing is found
pub paused_finds : (c d : Connection) (told : Found) → pauses c.receiver.core ≡ true → Finds c d told → (d ≡ c) × (told ≡ Silent)
paused_finds c d told paused finds = subst (λ (b : Bool). FindsWhile b c d told) paused finds

asked_then : (more : List Found) (old mid d : Connection) (over : Bool) → mid.receiver.core.over ≡ over → Asked mid more d
    → Spends old.receiver mid.receiver → Spends mid.receiver d.receiver → Spends old.receiver d.receiver
asked_then more old mid d false over asked one other = spends_then old.receiver mid.receiver d.receiver over one other
asked_then [] old mid d true over asked one other =
    let same = paused_finds mid d Silent (over_pauses mid.receiver.core over) asked in
    subst (λ (k : Connection). Spends old.receiver k.receiver) (sym same.0) one
asked_then (told ∷ more) old mid d true over (loud, next, finds, later) one other =
    let same = paused_finds mid next told (over_pauses mid.receiver.core over) finds in absurd (search (rules, same.1, loud))

pub asked_spend : (told : List Found) (c d : Connection) → Asked c told d → IsCaughtUp c.receiver.core → Spends c.receiver d.receiver
asked_spend [] c d asked caught = finds_spend c d Silent asked caught
asked_spend (first ∷ more) c d (loud, mid, finds, later) caught =
    let one = finds_spend c mid first finds caught in
    asked_then more c mid d mid.receiver.core.over refl later one (asked_spend more mid d later one.caught)
