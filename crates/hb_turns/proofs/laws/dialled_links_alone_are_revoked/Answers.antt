use Rattle.std.proofs.Common.{refl}
use Rattle.hb_turns.proofs.laws.dialled_links_alone_are_revoked.Goals as goal

pub returns-clause-accepted : goal.returns-clause-accepted
returns-clause-accepted c = λ door. refl

pub returns-clause-dialled : goal.returns-clause-dialled
returns-clause-dialled c = λ to why. refl

pub returns-clause-stopped : goal.returns-clause-stopped
returns-clause-stopped c = λ to why. refl
