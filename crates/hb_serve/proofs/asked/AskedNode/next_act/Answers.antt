use Rattle.std.proofs.Common.{refl}
use Rattle.hb_audit.specs.HeldBy.{each, answers_by}
use Rattle.hb_serve.specs.declared.asked.Asked.{Asked}
use Rattle.hb_serve.proofs.Asking.{acts_as, none_as}
use Rattle.hb_serve.proofs.asked.AskedNode.next_act.Goals as goal

pub returns-clause-acts : goal.returns-clause-acts
returns-clause-acts g c =
    acts_as (answers_by g.A.Audit.notes g.A.Audit.answers) (λ (n : Asked g.row.G.Denot g.row.A.Denot). n.proxy)
    (λ (n : Asked g.row.G.Denot g.row.A.Denot). each n.audits)
    g.G.Given.config g.G.Given.before c.next_act.result _ _ c.next_act.ensures.acts c.next_act.ensures.config refl

pub returns-clause-all : goal.returns-clause-all
returns-clause-all g c =
    none_as (answers_by g.A.Audit.notes g.A.Audit.answers) g.G.Given.config g.G.Given.before _ c.next_act.result _ _ c.next_act.ensures.all
