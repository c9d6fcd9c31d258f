use Rattle.std.proofs.Common.{false, sym, ◌∙◌}
use Rattle.hb_turns.proofs.Faulting.{stays_none}
use Rattle.hb_turns.proofs.Leading.{heads_none, none_first, first_reads}
use Rattle.hb_turns.proofs.Trying.{tried_none}
use Rattle.hb_turns.proofs.round.read_first.Goals as goal

pub returns-in-None-clause-tried : goal.returns-in-None-clause-tried
returns-in-None-clause-tried g c = tried_none g.N.Node.stands g.N.Node.shown false c.args.run.now (g.W.World.trace c.args.world.now)

pub returns-in-None-clause-leads : goal.returns-in-None-clause-leads
returns-in-None-clause-leads g c = heads_none _ (λ x. none_first _ _ _ x (sym c.first.ensures ∙ c.in-None.is))

pub returns-in-None-clause-stays : goal.returns-in-None-clause-stays
returns-in-None-clause-stays g c = stays_none _

pub returns-in-Some-clause-leads : goal.returns-in-Some-clause-leads
returns-in-Some-clause-leads g c =
    first_reads g.N.Node.shown c.args.run.now _ c.in-Some.link c.try_call.result _ _ (sym c.first.ensures ∙ c.in-Some.is) c.try_call.ensures.leads
