use Rattle.std.proofs.Common.{arith, ◌≡◌, true, false, rules}
use Rattle.hb_conn.specs.Outcome.{is_silent}
use Rattle.hb_conn.specs.Receiving.{pauses, LacksBlock}
use Rattle.hb_conn.proofs.Received.{receives_waiting, receives_lacking, receives_told, receives_on, lacks_on}
use Rattle.hb_conn.proofs.Taken.{silent_falls, shrinks_more}
use Rattle.hb_conn.proofs.receiver.Receiver.receive.Goals as goal

pub returns-in_default-clause-all : goal.returns-in_default-clause-all
returns-in_default-clause-all c =
    let steps = rw (c.in_ok-found.was, c.in_default.is) at c.step.ensures.steps in
    let goes : pauses c.loop-self.self.core ≡ false = search rules in
    c.loop-self.invariant.later c.step.new.self _ (receives_lacking c.loop-self.self c.step.new.self goes steps)

pub returns-then-not-is_silent-clause-all : goal.returns-then-not-is_silent-clause-all
returns-then-not-is_silent-clause-all c =
    let steps = rw (c.in_ok-found.was, c.in-Some.is) at c.step.ensures.steps in
    let told : is_silent c.in-Some.found ≡ false = search rules in
    c.loop-self.invariant.later c.step.new.self c.in-Some.found (receives_told c.loop-self.self c.step.new.self c.in-Some.found steps told)

pub loop-self-preserved : goal.loop-self-preserved
loop-self-preserved c =
    let steps = rw (c.in_ok-found.was, c.in-Some.is) at c.step.ensures.steps in
    let silent : is_silent c.in-Some.found ≡ true = search rules in
    let falls = silent_falls c.loop-self.self c.step.new.self c.in-Some.found silent steps.1 in
    record {
      later = λ new found later. c.loop-self.invariant.later new found
          (receives_on c.loop-self.self c.step.new.self new c.in-Some.found found steps silent later);
      within = omega (arith, falls, c.loop-self.invariant.within);
      lacks = λ later. c.loop-self.invariant.lacks (lacks_on c.loop-self.self c.step.new.self c.in-Some.found steps silent later);
    }

pub returns-then-not-is_silent-clause-falls : goal.returns-then-not-is_silent-clause-falls
returns-then-not-is_silent-clause-falls c =
    let steps = rw (c.in_ok-found.was, c.in-Some.is) at c.step.ensures.steps in
    λ told. shrinks_more c.args.self.now c.loop-self.self c.step.new.self c.in-Some.found c.loop-self.invariant.within steps.1

pub returns-clause-all : goal.returns-clause-all
returns-clause-all c =
    let waits : pauses c.loop-self.self.core ≡ true = search rules in
    c.loop-self.invariant.later c.loop-self.self _ (receives_waiting c.loop-self.self waits)

pub returns-in_err-found-clause-lacks : goal.returns-in_err-found-clause-lacks
returns-in_err-found-clause-lacks c =
    let here : LacksBlock c.loop-self.self = rw c.in_err-found.was at c.step.ensures.lacks in
    let lacks : LacksBlock c.args.self.now = c.loop-self.invariant.lacks here in
    search (rules, lacks)
