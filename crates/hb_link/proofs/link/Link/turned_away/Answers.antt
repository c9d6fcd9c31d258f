use Rattle.hb_base.specs.declared.cause.Cause.TheVariants.{NoRoom}
use Rattle.hb_link.specs.Calls.{TurnsAway}
use Rattle.hb_link.specs.Fresh.{IsFresh}
use Rattle.hb_link.specs.declared.phase.Phase.TheVariants.{Closing}
use Rattle.hb_link.proofs.Begun.{turns_away, of_value}
use Rattle.hb_link.proofs.link.Link.turned_away.Goals as goal

pub returns-clause-turns : goal.returns-clause-turns
returns-clause-turns c =
    of_value (IsFresh c.args.number (Closing NoRoom)) (TurnsAway c.args.number) c.fresh.result (turns_away c.args.number) c.fresh.ensures.fresh
