-- How many links count where inbound links and links to gateways are as they were.
use Rattle.std.proofs.Common.{◌≡◌, ℕ, ◌+◌, Bool, sym, subst}
use Rattle.hb_gateway.specs.Gateway.{Gateway, carries}
use Rattle.hb_inbound.specs.Inbound.{Inbound}
use Rattle.hb_model.specs.declared.config.NodeConfig.{NodeConfig}
use Rattle.hb_proxy.specs.Load.{most_links, sum_below, one_if, counts, IsFull, LinksFull}
use Rattle.hb_proxy.specs.Machine.{Machine}

-- as many, of these links
abbrev FullAmong : Bool → NodeConfig → (ℕ → Inbound) → (ℕ → Gateway) → Type 0
FullAmong full g links gates =
    IsFull full (most_links g) (λ bound. sum_below (λ l. one_if (counts (links l).phase) + one_if (carries (gates l).phase)) bound)

pub full_same : (full : Bool) (g : NodeConfig) (x y : Machine) → y.inbound ≡ x.inbound → y.gates ≡ x.gates → LinksFull full g x
    → LinksFull full g y
full_same full g x y inbound gates is =
    subst (λ (f : ℕ → Inbound). FullAmong full g f y.gates) (sym inbound)
    (subst (λ (f : ℕ → Gateway). FullAmong full g x.inbound f) (sym gates) is)
