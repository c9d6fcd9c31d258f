use Rattle.std.proofs.Common.{◌≡◌, refl}
use Rattle.hb_held.specs.Outcome.{after_response}
use Rattle.hb_inbound.specs.Part.{applied}
use Rattle.hb_link.proofs.Ending.{all_judged}
use Rattle.hb_link.proofs.Settles.{meets_settled}
use Rattle.hb_link.proofs.Updating.{untouched_updates}
use Rattle.hb_link.proofs.Rousing.{judged_rouse, rouses_same, rouses_then}
use Rattle.hb_link.proofs.link.Link.judge_all.Goals as goal

pub returns-then-is_spared-clause-updates : goal.returns-then-is_spared-clause-updates
returns-then-is_spared-clause-updates g c =
    untouched_updates c.args.self.now c.args.held.now (g.N.Notes.told c.args.notes.now) (c.is_spared.ensures c.if-is_spared.true)

pub returns-clause-updates : goal.returns-clause-updates
returns-clause-updates g c = λ r.
    let k = c.args.self.now in
    let n = c.judge_tunnels.new.self in
    meets_settled (λ a. c.args.held.now ≡ after_response a.held r) (applied r) k n c.settle.new.self
    (g.N.Notes.told c.args.notes.now) (g.N.Notes.told c.settle.new.notes)
    (all_judged k n c.args.held.now r (record { link = c.judge_tunnels.ensures.rest; each = c.judge_tunnels.ensures.each }))
    c.settle.ensures.settles

pub returns-then-is_spared-clause-rouses : goal.returns-then-is_spared-clause-rouses
returns-then-is_spared-clause-rouses g c = rouses_same c.args.self.now c.args.self.now refl refl

pub returns-clause-rouses : goal.returns-clause-rouses
returns-clause-rouses g c =
    let k = c.args.self.now in
    let mid = c.judge_tunnels.new.self in
    rouses_then k mid c.settle.new.self
    (judged_rouse k mid c.args.held.now c.judge_tunnels.ensures.rest c.judge_tunnels.ensures.each) c.settle.ensures.rouses
