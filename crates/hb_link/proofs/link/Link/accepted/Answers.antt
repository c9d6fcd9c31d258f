use Rattle.hb_link.specs.Calls.{Begins}
use Rattle.hb_link.specs.Fresh.{IsFresh}
use Rattle.hb_link.specs.declared.phase.Phase.TheVariants.{Fronting}
use Rattle.hb_link.proofs.Begun.{begins, of_value}
use Rattle.hb_link.proofs.link.Link.accepted.Goals as goal

pub returns-clause-begins : goal.returns-clause-begins
returns-clause-begins c =
    of_value (IsFresh c.args.number Fronting) (Begins c.args.number) c.fresh.result (begins c.args.number) c.fresh.ensures.fresh
