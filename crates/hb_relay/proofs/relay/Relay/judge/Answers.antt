use Rattle.std.proofs.Common.{ap, sym, ◌∙◌}
use Rattle.hb_captured.specs.Captured.{judges}
use Rattle.hb_relay.proofs.Meeting.{unjudged_stays, fronting_stays, admitted_stays, revokes, unmade_stays}
use Rattle.hb_relay.proofs.relay.Relay.judge.Goals as goal

pub returns-then-not-judges-clause-updates : goal.returns-then-not-judges-clause-updates
returns-then-not-judges-clause-updates c =
    unjudged_stays c.args.held.now c.args.self.now (ap judges (sym c.door.ensures) ∙ sym c.if-not-judges.ensures)

pub returns-in-Fronting-clause-updates : goal.returns-in-Fronting-clause-updates
returns-in-Fronting-clause-updates c = fronting_stays c.args.held.now c.args.self.now c.in-Fronting.is

pub returns-in-Admitted-clause-updates : goal.returns-in-Admitted-clause-updates
returns-in-Admitted-clause-updates c = admitted_stays c.args.held.now c.args.self.now (sym c.judge.ensures ∙ c.in-Admitted.is)

pub returns-clause-updates : goal.returns-clause-updates
returns-clause-updates c =
    revokes c.args.held.now c.args.self.now c.end_for.new.self c.end_for.result
    (ap judges (sym c.door.ensures) ∙ sym c.if-not-judges.ensures) c.in_default.not-Fronting
    (λ is. c.in_default-judge.not-Admitted (c.judge.ensures ∙ is)) c.end_for.ensures.note c.end_for.ensures.after

pub returns-clause-same : goal.returns-clause-same
returns-clause-same c =
    unmade_stays c.args.self.now c.end_for.new.self c.end_for.result c.in_default.not-Fronting c.end_for.ensures.note
    c.end_for.ensures.after
