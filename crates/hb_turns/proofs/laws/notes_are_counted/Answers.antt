use Rattle.std.proofs.Common.{refl}
use Rattle.hb_turns.proofs.laws.notes_are_counted.Goals as goal

pub returns-clause-accepted : goal.returns-clause-accepted
returns-clause-accepted c = λ peer target. refl

pub returns-clause-lacks : goal.returns-clause-lacks
returns-clause-lacks c = λ peer target. (refl, refl)

pub returns-clause-ends : goal.returns-clause-ends
returns-clause-ends c = refl

pub returns-clause-most : goal.returns-clause-most
returns-clause-most c = refl
