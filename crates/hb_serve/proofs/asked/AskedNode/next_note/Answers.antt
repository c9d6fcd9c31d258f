use Rattle.std.proofs.Common.{List, ◌++◌, ◌∙◌, subst}
use Rattle.hb_audit.specs.HeldBy.{each, answers_by}
use Rattle.hb_audit.specs.Tells.{Tells}
use Rattle.hb_audit.specs.Told.{Told}
use Rattle.hb_held.specs.Held.{Resources}
use Rattle.hb_reason.specs.Reasons.{told_by}
use Rattle.hb_reason.proofs.Hearing.{next}
use Rattle.hb_serve.proofs.asked.AskedNode.next_note.Goals as goal

pub returns-clause-takes : goal.returns-clause-takes
returns-clause-takes g c = λ taken trace stands.
    let answers = answers_by g.A.Audit.notes g.A.Audit.answers in
    let took = c.in_ok-note.ensures {u = tt} in
    let is = took.takes taken trace stands.0 in
    let config = took.config ∙ stands.1.0 in
    let tells = subst (λ (h : Resources). (told : List Told) → Tells answers g.G.Given.before (each c.args.self.now.audits) told
    → Tells answers g.G.Given.before (each c.tell.new.audits) (told ++ told_by h c.in_ok-note.note)) c.held.ensures
    (c.tell.ensures g.G.Given.before) in (
      is,
      (config, next g.G.Given.config trace answers g.G.Given.before _ taken _ _ _ _ is config took.still stands.1.1 tells),
    )
