use Rattle.hb_audit.specs.HeldBy.{answers_by}
use Rattle.hb_serve.proofs.Asking.{tells_as, on_ok}
use Rattle.hb_serve.proofs.asked.AskedNode.dialled.Goals as goal

pub returns : goal.returns
returns g c =
    on_ok _ _ _ c.dialled.result (λ tells same to. tells_as
    (answers_by g.A.Audit.notes g.A.Audit.answers) g.G.Given.config g.G.Given.before _ _ _ _ (tells to) same) c.dialled.ensures.tells
    c.dialled.ensures.config
