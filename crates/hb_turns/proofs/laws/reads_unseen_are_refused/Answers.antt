use Rattle.std.proofs.Common.{[], ◌∷◌, refl}
use Rattle.hb_world.specs.declared.entry.Entry.TheVariants as e
use Rattle.hb_world.proofs.TraceLemmas.{AtEach-grows}
use Rattle.hb_turns.specs.RefusedLooks.{glances}
use Rattle.hb_turns.specs.Settled.{SettledAt}
use Rattle.hb_turns.proofs.Serving.{nothing_at}
use Rattle.hb_turns.proofs.laws.reads_unseen_are_refused.Goals as goal

pub returns-clause-on : goal.returns-clause-on
returns-clause-on g c = λ law. cc

pub returns-clause-between : goal.returns-clause-between
returns-clause-between g c = λ law. cc

pub returns-clause-both : goal.returns-clause-both
returns-clause-both g c = λ law. cc

pub returns-clause-accepts : goal.returns-clause-accepts
returns-clause-accepts g c = λ law. cc

pub returns-clause-good : goal.returns-clause-good
returns-clause-good g c = refl

pub returns-clause-settled : goal.returns-clause-settled
returns-clause-settled g c = λ to why.
    let P = SettledAt g.N.Node.stands g.N.Node.shown in
    AtEach-grows P (e.Dialled 1 to why ∷ []) glances (AtEach-grows P [] (e.Dialled 1 to why) (nothing_at P) tt) (λ waited. absurd cc)
