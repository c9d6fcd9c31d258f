use Rattle.std.proofs.Common.{◌≡◌, ◌<◌, ◌∙◌, length, refl, ap, sym, subst, true, false, arith}
use Rattle.std.specs.Prelude.{nat_lt}
use Rattle.std.proofs.lemmas.Bool.Decides.{nat_tests}
use Rattle.hb_outgoing.specs.Waiting.{room_of}
use Rattle.hb_owed.specs.Debts.{Debts, IsFirstDue, dues}
use Rattle.hb_owed.specs.Paid.{paid, with_put}
use Rattle.hb_owed.specs.Frames.{size_of}
use Rattle.hb_owed.proofs.Walks.{paid_none, paid_stuck, paid_step, falls, payment}
use Rattle.hb_owed.proofs.owed.Owed.pay.Goals as goal

pub returns-then-room-size : goal.returns-then-room-size
returns-then-room-size c =
    let l = c.loop-stream in
    let is = subst (IsFirstDue l.self) c.in-Some.is c.first_due.ensures.value in
    let full : nat_lt (room_of l.out) (size_of c.in-Some.due) ≡ true =
    grind (arith, nat_tests, c.room.ensures.value, c.size.ensures, c.if-room-size.true) in
    sym (paid_stuck (payment l.self l.out l.encoder) (c.in-Some.stream, c.in-Some.due) is full) ∙ l.invariant

pub loop-stream-smaller : goal.loop-stream-smaller
loop-stream-smaller c =
    let l = c.loop-stream in
    let is = subst (IsFirstDue l.self) c.in-Some.is c.first_due.ensures.value in
    subst (λ (m : Debts). length (dues m) < length (dues l.self)) (sym c.strike.ensures)
    (falls l.self (c.in-Some.stream, c.in-Some.due) is)

pub loop-stream-preserved : goal.loop-stream-preserved
loop-stream-preserved c =
    let l = c.loop-stream in
    let is = subst (IsFirstDue l.self) c.in-Some.is c.first_due.ensures.value in
    let fits : nat_lt (room_of l.out) (size_of c.in-Some.due) ≡ false =
    grind (arith, nat_tests, c.room.ensures.value, c.size.ensures, c.if-room-size.false) in
    let was = payment l.self l.out l.encoder in
    let becomes : payment c.strike.new.self c.put_due.new.out c.put_due.new.encoder ≡ with_put c.in-Some.stream c.in-Some.due was =
    rw (c.strike.ensures, c.put_due.ensures.out, c.put_due.ensures.encoder) refl in
    ap paid becomes ∙ sym (paid_step was (c.in-Some.stream, c.in-Some.due) is fits) ∙ l.invariant

pub returns : goal.returns
returns c =
    let l = c.loop-stream in
    let is = subst (IsFirstDue l.self) c.in_default.is c.first_due.ensures.value in
    ap (λ (m : Debts). payment m l.out l.encoder) c.keep_clear.ensures
    ∙ sym (paid_none (payment l.self l.out l.encoder) is) ∙ l.invariant
