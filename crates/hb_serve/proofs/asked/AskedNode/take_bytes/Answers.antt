use Rattle.hb_audit.specs.HeldBy.{answers_by}
use Rattle.hb_serve.proofs.Asking.{tells_then}
use Rattle.hb_serve.proofs.asked.AskedNode.take_bytes.Goals as goal

pub returns : goal.returns
returns g c =
    let took = c.in_ok-take_bytes.ensures {u = tt} in
    let forgot = c.forget_applied.ensures in
    tells_then (answers_by g.A.Audit.notes g.A.Audit.answers) g.G.Given.config g.G.Given.before _ _ _ _ _ took.tells took.config
    forgot.stands forgot.same forgot.stirs forgot.config
