-- What resets and refusals take of the room.
use Rattle.std.proofs.Common.{◌≡◌, ℕ, ◌+◌, ◌≤◌, Bool, true, false, cond, [], Some, refl, ap, arith}
use Rattle.hb_base.specs.declared.scope.Scope.{Scope}
use Rattle.hb_base.specs.declared.scope.Scope.TheVariants.{Connection, Stream}
use Rattle.hb_outgoing.specs.Waiting.{room_of}
use Rattle.hb_outgoing.specs.Selected.{taken_back}
use Rattle.hb_streams.specs.declared.fault.StreamFault.{StreamFault}
use Rattle.hb_flow.specs.Flows.{closed as flow_closed}
use Rattle.hb_owed.specs.declared.due.Due.TheVariants as due
use Rattle.hb_owed.specs.Debts.{dues, closed}
use Rattle.hb_conn.specs.Faults.{is_active, withdrawn, released, given_up, cancelled, aborted, refused_by, refused}
use Rattle.hb_conn.specs.Owing.{goes_at_once, put_now, put_later, with_due, owed_paid}
use Rattle.hb_conn.specs.declared.machine.Core.{Core}
use Rattle.hb_conn.proofs.Keeping.{resets_catch_up}
use Rattle.hb_history.proofs.CatchUpDues.{AtMost, taken_back_owes, reset_owes, closed_reset_owes}
use Rattle.hb_history.proofs.CatchUpAnswers.{Lowers, Costs, lowers_by, costs, stays, released_lowers, faulted_costs, room_kept, due_room, payment_room, free_room}

withdrawn_lowers : (c : Core) (s : ℕ) → dues c.owed ≡ [] → Lowers 0 c (withdrawn c s)
withdrawn_lowers c s clear = record {
  room = let kept = room_kept (Some s) c.out (taken_back s c.out) refl in omega (arith, kept);
  clear = taken_back_owes c.owed s clear;
}

cancelled_lowers : (c : Core) (s : ℕ) → dues c.owed ≡ [] → Lowers 0 c (cancelled c s)
cancelled_lowers c s clear = lowers_by 0 (is_active c.streams s) c _ c (stays c _ refl refl clear) (stays c c refl refl clear)

one_paid : (c : Core) (s code : ℕ) → AtMost s code (dues c.owed) → room_of c.out ≤ room_of (owed_paid c).out + 13
unfolding owed_paid
one_paid c s code most = payment_room _ s code most

none_paid : (c : Core) → dues c.owed ≡ [] → room_of c.out ≤ room_of (owed_paid c).out
unfolding owed_paid
none_paid c none = free_room _ none

released_out : (b : Bool) (c : Core) (s : ℕ) → (cond b c (record c { flow = flow_closed c.flow s; owed = closed c.owed s })).out ≡ c.out
released_out true c s = refl
released_out false c s = refl

released_owes : (b : Bool) (c : Core) (s code : ℕ) → AtMost s code (dues c.owed) → AtMost s code (dues (closed c.owed s))
    → AtMost s code (dues (cond b c (record c { flow = flow_closed c.flow s; owed = closed c.owed s })).owed)
released_owes true c s code whole gone = whole
released_owes false c s code whole gone = gone

-- RST_STREAM is put at once and nothing is owed, or it alone is owed, and paid
reset_by : (b : Bool) (c : Core) (s code : ℕ) → dues c.owed ≡ []
    → room_of c.out ≤ room_of (owed_paid (released (cond b (put_now c s (due.Reset code)) (put_later c s (due.Reset code))) s)).out + 13
reset_by true c s code clear =
    let put = put_now c s (due.Reset code) in
    let size = due_room true c s (due.Reset code) refl in
    let out = ap room_of (released_out (is_active c.streams s) put s) in
    let paid = none_paid (released put s) (released_lowers put s clear).clear in
    omega (arith, size, out, paid)
reset_by false c s code clear =
    let later = put_later c s (due.Reset code) in
    let out = ap room_of (released_out (is_active c.streams s) later s) in
    let owes = released_owes (is_active c.streams s) later s code (reset_owes c.owed s code clear)
    (closed_reset_owes c.owed s code clear) in
    let paid = one_paid (released later s) s code owes in
    omega (arith, out, paid)

aborted_room : (c : Core) (s code : ℕ) → dues c.owed ≡ [] → room_of c.out ≤ room_of (aborted c s code).out + 13
unfolding aborted with_due
aborted_room c s code clear =
    let first = cancelled_lowers c s clear in
    let second = withdrawn_lowers (cancelled c s) s first.clear in
    let mid = withdrawn (cancelled c s) s in
    let third = reset_by (goes_at_once mid s (due.Reset code)) mid s code second.clear in
    omega (arith, first.room, second.room, third)

pub aborted_lowers : (c : Core) (s code : ℕ) → 30 ≤ room_of c.out → dues c.owed ≡ [] → Lowers 13 c (aborted c s code)
aborted_lowers c s code room clear =
    let left = aborted_room c s code clear in
    record { room = left; clear = (resets_catch_up c s code).0 (omega (arith, left, room)) }

pub given_up_lowers : (c : Core) (s : ℕ) → 30 ≤ room_of c.out → dues c.owed ≡ [] → Lowers 0 c (given_up c s)
given_up_lowers c s room clear =
    let first = withdrawn_lowers c s clear in
    let second = released_lowers (withdrawn c s) s first.clear in
    let third = none_paid (released (withdrawn c s) s) second.clear in
    let left : room_of c.out ≤ room_of (given_up c s).out + 0 = omega (arith, first.room, second.room, third) in
    record { room = left; clear = (resets_catch_up c s 0).1 (omega (arith, left, room)) }

refused_by_costs : (c : Core) (scope : Scope) (code : ℕ) → 30 ≤ room_of c.out → dues c.owed ≡ [] → Costs 13 c (refused_by c scope code).core
refused_by_costs c Connection code room clear =
    let end = faulted_costs c code in record { room = omega (arith, end.room); clear = end.clear }
refused_by_costs c (Stream s) code room clear = costs 13 13 c (aborted c s code) (aborted_lowers c s code room clear) (omega arith)

pub refused_costs : (c : Core) (fault : StreamFault) → 30 ≤ room_of c.out → dues c.owed ≡ [] → Costs 13 c (refused c fault).core
refused_costs c fault room clear = refused_by_costs c fault.scope fault.code room clear
