use Rattle.std.proofs.Common.{Some}
use Rattle.hb_relays.specs.Stirring.{closed_in}
use Rattle.hb_relays.proofs.Stirs.{none_stirs, any_stirs, stirs_all_then, stirs_but_then}
use Rattle.hb_relays.proofs.Walking.{goes_stirs, walks_on, walk_acts, walk_ends}
use Rattle.hb_relays.proofs.relays.Relays.link_act.Goals as goal

pub loop-number-init : goal.loop-number-init
loop-number-init c = (λ g x points stands shows. shows, none_stirs c.args.self.now)

pub loop-number-preserved : goal.loop-number-preserved
loop-number-preserved c =
    let first = c.args.self.now in
    let old = c.loop-number.self in
    let mid = c.next_due.new.self in
    let asked = c.act_of.new.self in (
      walks_on first old mid asked c.in-Some.number c.loop-number.invariant.0 (c.in-Some.ensures {u = tt}).goes
          (c.in_default-act_of.ensures {u = tt}).acts,
      stirs_all_then first old asked c.loop-number.invariant.1
          (stirs_all_then old mid asked (goes_stirs old mid c.next_due.result c.next_due.ensures.goes)
          (any_stirs mid asked (c.in_default-act_of.ensures {u = tt}).stirs)),
    )

pub returns-in-Some-act_of-clause-acts : goal.returns-in-Some-act_of-clause-acts
returns-in-Some-act_of-clause-acts c =
    walk_acts c.args.self.now c.loop-number.self c.next_due.new.self c.act_of.new.self c.in-Some.number c.in-Some-act_of.act
    c.loop-number.invariant.0 (c.in-Some.ensures {u = tt}).goes (c.in-Some-act_of.ensures {u = tt}).acts

pub returns-in-Some-act_of-clause-stirs : goal.returns-in-Some-act_of-clause-stirs
returns-in-Some-act_of-clause-stirs c =
    let first = c.args.self.now in
    let old = c.loop-number.self in
    let mid = c.next_due.new.self in
    stirs_but_then first mid c.act_of.new.self (closed_in (Some c.in-Some-act_of.act))
    (stirs_all_then first old mid c.loop-number.invariant.1 (goes_stirs old mid c.next_due.result c.next_due.ensures.goes))
    (c.in-Some-act_of.ensures {u = tt}).stirs

pub returns-clause-acts : goal.returns-clause-acts
returns-clause-acts c =
    walk_ends c.args.self.now c.loop-number.self c.next_due.new.self c.loop-number.invariant.0 (c.in_default.ensures {u = tt}).goes

pub returns-clause-stirs : goal.returns-clause-stirs
returns-clause-stirs c = λ n apart.
    stirs_all_then c.args.self.now c.loop-number.self c.next_due.new.self c.loop-number.invariant.1
    (goes_stirs c.loop-number.self c.next_due.new.self c.next_due.result c.next_due.ensures.goes) n
