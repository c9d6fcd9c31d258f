use Rattle.hb_audit.specs.HeldBy.{answers_by}
use Rattle.hb_serve.proofs.Asking.{tells_as}
use Rattle.hb_serve.proofs.asked.AskedNode.tick.Goals as goal

pub returns-clause-tells : goal.returns-clause-tells
returns-clause-tells g c = tells_as
    (answers_by g.A.Audit.notes g.A.Audit.answers) g.G.Given.config g.G.Given.before _ _ _ _ c.tick.ensures.tells c.tick.ensures.config
