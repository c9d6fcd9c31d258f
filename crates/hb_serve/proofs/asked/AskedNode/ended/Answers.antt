use Rattle.hb_audit.specs.HeldBy.{answers_by}
use Rattle.hb_serve.proofs.Asking.{tells_as}
use Rattle.hb_serve.proofs.asked.AskedNode.ended.Goals as goal

pub returns : goal.returns
returns g c = tells_as
    (answers_by g.A.Audit.notes g.A.Audit.answers) g.G.Given.config g.G.Given.before _ _ _ _ c.ended.ensures.tells c.ended.ensures.config
