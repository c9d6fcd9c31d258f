use Rattle.std.proofs.Common.{refl, ◌∙◌}
use Rattle.hb_turns.proofs.Holding.{same_none, same_both, stands_lacks}
use Rattle.hb_turns.proofs.acts.hear_all.Goals as goal

pub loop-told-init : goal.loop-told-init
loop-told-init g c = record { kept = λ trace s. s; same = same_none _; noted = refl }

pub loop-told-preserved : goal.loop-told-preserved
loop-told-preserved g c =
    let at = c.loop-told.invariant in
    let heard = c.hear.ensures in
    record {
      kept = λ trace s. heard.keeps trace (at.kept trace s);
      same = same_both _ _ _ at.same heard.same;
      noted = heard.noted ∙ at.noted;
    }

pub returns-clause-keeps : goal.returns-clause-keeps
returns-clause-keeps g c = λ trace s. stands_lacks g.N.Node.stands g.N.Node.shown c.loop-told.run trace (c.loop-told.invariant.kept trace s)

pub returns-then-not-hear-clause-keeps : goal.returns-then-not-hear-clause-keeps
returns-then-not-hear-clause-keeps g c = λ trace s. c.hear.ensures.keeps trace (c.loop-told.invariant.kept trace s)
