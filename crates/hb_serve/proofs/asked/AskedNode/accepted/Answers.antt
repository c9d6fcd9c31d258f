use Rattle.std.specs.Prelude.{⊤}
use Rattle.hb_audit.specs.HeldBy.{answers_by}
use Rattle.hb_serve.proofs.Asking.{tells_as, on_ok, always}
use Rattle.hb_serve.proofs.asked.AskedNode.accepted.Goals as goal

pub returns : goal.returns
returns g c =
    on_ok _ ⊤ _ c.accepted.result (λ tells always. tells_as
    (answers_by g.A.Audit.notes g.A.Audit.answers) g.G.Given.config g.G.Given.before _ _ _ _ tells c.accepted.ensures.config)
    c.accepted.ensures.tells
    (always c.accepted.result tt)
