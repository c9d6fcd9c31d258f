use Rattle.std.proofs.Common.{ap, ◌∙◌}
use Rattle.hb_base.specs.IdentityText.{identity_of}
use Rattle.hb_base.proofs.IdentityLemmas.{identity_spelled, identity_of-text}
use Rattle.hb_base.proofs.laws.identities_are_read_as_they_are_spelled.Goals as goal

pub returns : goal.returns
returns c text i = (
  identity_spelled text i,
  λ (is, domain, namespace, account). ap identity_of is ∙ identity_of-text i domain namespace
      account,
)
