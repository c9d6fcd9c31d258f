use Rattle.std.proofs.Common.{Option, subst}
use Rattle.hb_audit.specs.HeldBy.{each, answers_by}
use Rattle.hb_audit.specs.Tells.{TellsOne}
use Rattle.hb_audit.specs.Told.{Reason}
use Rattle.hb_audit.proofs.TellsLemmas.{tells_more}
use Rattle.hb_serve.proofs.asked.tell.Goals as goal

pub returns-in-Some : goal.returns-in-Some
returns-in-Some g c = λ before told so.
    let answers = answers_by g.A.Audit.notes g.A.Audit.answers in
    rw c.in-Some.is (tells_more answers before _ _ told _ so
    (subst (λ (r : Option Reason). TellsOne answers (each c.args.audits.now) (each c.tell.new.self)
    (record { note = c.in-Some.made; reason = r })) c.reason_beside.ensures c.tell.ensures.one))
