use Rattle.hb_relays.proofs.NotShown.{lacks_gate, keeps_closed_gate, misses_close, waits_though}
use Rattle.hb_relays.proofs.laws.other_links_are_not_shown.Goals as goal

pub returns-clause-gate : goal.returns-clause-gate
returns-clause-gate c = lacks_gate

pub returns-clause-closed_gate : goal.returns-clause-closed_gate
returns-clause-closed_gate c = keeps_closed_gate

pub returns-clause-close : goal.returns-clause-close
returns-clause-close c = misses_close

pub returns-clause-waits : goal.returns-clause-waits
returns-clause-waits c = waits_though
