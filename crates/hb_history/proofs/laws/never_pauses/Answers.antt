use Rattle.hb_history.proofs.Budget.{never_pauses, looks_at_all, calls_wait}
use Rattle.hb_history.proofs.laws.never_pauses.Goals as goal

pub returns : goal.returns
returns c = record { calls = calls_wait; looks = looks_at_all; all = never_pauses }
