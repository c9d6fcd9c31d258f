use Rattle.std.proofs.Common.{subst}
use Rattle.hb_inbound.specs.Calm.{RestsIn, IsIdleBy}
use Rattle.hb_inbound.specs.Inbound.{Phase}
use Rattle.hb_inbound.specs.Tunnel.{Stage}
use Rattle.hb_model.specs.Discovery as discovery
use Rattle.hb_model.specs.Runs.{IsCalmBy}
use Rattle.hb_serve.proofs.laws.machines_with_work_left_are_not_at_rest.Goals as goal

pub returns-clause-unheard : goal.returns-clause-unheard
returns-clause-unheard c = λ x l is unlooked rests.
    unlooked (subst (λ (p : discovery.Phase). IsCalmBy p (x.control.links l)) is (rests.control.calm l)).looked_at

pub returns-clause-unapplied : goal.returns-clause-unapplied
returns-clause-unapplied c = λ x l is full rests.
    full (subst (λ (p : discovery.Phase). IsCalmBy p (x.control.links l)) is (rests.control.calm l)).empty_handed

pub returns-clause-unlooked : goal.returns-clause-unlooked
returns-clause-unlooked c = λ x l is unlooked rests.
    unlooked (subst (λ (p : Phase). RestsIn p (x.inbound l)) is (rests.links l).calm.rests).0

pub returns-clause-unclosed : goal.returns-clause-unclosed
returns-clause-unclosed c = λ x l s why is rests.
    subst (λ (stage : Stage). IsIdleBy stage ((x.inbound l).tunnels s)) is ((rests.links l).idle s)
