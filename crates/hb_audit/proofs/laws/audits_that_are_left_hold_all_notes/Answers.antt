use Rattle.hb_audit.proofs.LeftLemmas.{left_hold_all, all_stay}
use Rattle.hb_audit.proofs.laws.audits_that_are_left_hold_all_notes.Goals as goal

pub returns-clause-hold : goal.returns-clause-hold
returns-clause-hold g c = left_hold_all g.A.Audit.notes g.A.Audit.answers

pub returns-clause-stay : goal.returns-clause-stay
returns-clause-stay g c = all_stay g.A.Audit.notes g.A.Audit.answers
