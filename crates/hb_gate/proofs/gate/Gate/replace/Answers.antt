use Rattle.std.proofs.Common.{sym, ◌∙◌}
use Rattle.hb_gate.proofs.Moved.{kept_changes, out_changes}
use Rattle.hb_gate.proofs.gate.Gate.replace.Goals as goal

pub returns-then-is_left-clause-streams : goal.returns-then-is_left-clause-streams
returns-then-is_left-clause-streams c =
    out_changes c.args.self.now.streams c.args.number c.args.now c.remove.new.self (sym c.is_left.ensures ∙ c.if-is_left.true)
    c.remove.ensures.rest

pub returns-in-Some-clause-streams : goal.returns-in-Some-clause-streams
returns-in-Some-clause-streams c =
    kept_changes c.args.self.now.streams c.args.number c.in-Some.stream.now c.args.now (c.at.follows.lender c.args.now)
    c.in-Some.ensures.value (c.at.follows.holds c.args.now) (sym c.is_left.ensures ∙ c.if-is_left.false)
