use Rattle.std.proofs.Common.{◌≤◌, length, ap, sym, ◌∙◌, subst, Some, arith}
use Rattle.hb_outgoing.specs.Waiting.{Waiting, octets_of}
use Rattle.hb_outgoing.proofs.Views.{taken_is_short, waiting}
use Rattle.hb_outgoing.proofs.Walks.{kept_all}
use Rattle.hb_outgoing.proofs.outgoing.Outgoing.take_back.Goals as goal

pub returns-then-not-may_be : goal.returns-then-not-may_be
returns-then-not-may_be c =
    let none = kept_all (Some c.args.stream) _ (c.self.invariant.4.absent c.args.stream (sym c.may_be.ensures ∙ c.if-not-may_be.true)) in
    rw (← c.self.view_is) (record {
      value = sym none.1;
      left = sym (ap (waiting _ _) none.0);
      shorter = omega arith;
    })

pub returns-clause-shorter : goal.returns-clause-shorter
returns-clause-shorter c =
    subst (λ (w : Waiting). length (octets_of w) ≤ length (octets_of c.args.self.now)) (sym c.take.ensures.left)
    (taken_is_short c.args.stream c.args.self.now)
