-- How many links and tunnels there are, and where as many are as may be.
use Rattle.std.specs.Prelude.{ℕ, zero, suc, ◌+◌, ◌<◌, ◌≤◌, Bool, true, false, if◌then◌else◌}
use Rattle.hb_captured.specs.Captured as captured
use Rattle.hb_gateway.specs.Gateway.{carries}
use Rattle.hb_inbound.specs.Inbound as link
use Rattle.hb_inbound.specs.Tunnel.{takes_place}
use Rattle.hb_model.specs.declared.config.NodeConfig.{NodeConfig}
use Rattle.hb_proxy.specs.Machine.{Machine}

-- how many there may be
abbrev pub most_links : NodeConfig → ℕ
most_links g = g.limits.links

abbrev pub most_tunnels : NodeConfig → ℕ
most_tunnels g = g.limits.tunnels

-- a count of the numbers below a bound
abbrev pub sum_below : (ℕ → ℕ) → ℕ → ℕ
sum_below f zero = 0
sum_below f (suc n) = sum_below f n + f n

abbrev pub one_if : Bool → ℕ
one_if b = if b then 1 else 0

-- an inbound link counts from its birth until it is to be closed
abbrev pub counts : link.Phase → Bool
counts link.arriving = true
counts link.fronting = true
counts link.serving = true
counts _ = false

-- a plain link takes a place from its birth until it ends
abbrev pub is_placed : captured.Stage → Bool
is_placed captured.arriving = true
is_placed captured.fronting = true
is_placed captured.due = true
is_placed captured.opening = true
is_placed captured.accepting = true
is_placed captured.live = true
is_placed _ = false

-- the links of this number: an inbound one, and one to a gateway, which counts while it carries streams
abbrev pub links_at : Machine → ℕ → ℕ
links_at x l = one_if (counts (x.inbound l).phase) + one_if (carries (x.gates l).phase)

-- the tunnels of this link: those on streams below a bound, and a plain link's own
abbrev pub tunnels_on : link.Inbound → ℕ → ℕ
tunnels_on x bound = sum_below (λ s. one_if (takes_place (x.tunnels s).stage)) bound

abbrev pub tunnels_at : Machine → (bound : ℕ) → ℕ → ℕ
tunnels_at x bound l = tunnels_on (x.inbound l) bound + one_if (is_placed (x.plain l).stage)

-- all of them below a bound
abbrev pub links_below : Machine → ℕ → ℕ
links_below x bound = sum_below (links_at x) bound

abbrev pub tunnels_below : Machine → ℕ → ℕ
tunnels_below x bound = sum_below (tunnels_at x bound) bound

-- so many are there, or fewer, however far one looks
abbrev pub IsFull : Bool → (limit : ℕ) → (ℕ → ℕ) → Type 0
IsFull true limit count = (bound : ℕ) × (limit ≤ count bound)
IsFull false limit count = (bound : ℕ) → count bound < limit

-- all places are taken, or not; one link more may be, or not
abbrev pub PlacesFull : Bool → NodeConfig → Machine → Type 0
PlacesFull full g x = IsFull full (most_tunnels g) (tunnels_below x)

abbrev pub LinksFull : Bool → NodeConfig → Machine → Type 0
LinksFull full g x = IsFull full (most_links g) (links_below x)

-- one that was born just now counts too: there are more than may be, or not
abbrev pub PlacesBurst : Bool → NodeConfig → Machine → Type 0
PlacesBurst more g x = IsFull more (suc (most_tunnels g)) (tunnels_below x)

abbrev pub LinksBurst : Bool → NodeConfig → Machine → Type 0
LinksBurst more g x = IsFull more (suc (most_links g)) (links_below x)

-- IN PARTS

-- a count comes to this, however far one looks, and from some bound on it is as much
pub record CountsTo (count : ℕ → ℕ) (n : ℕ) : Type 0 where
  pub within : (bound : ℕ) → count bound ≤ n
  pub bound : ℕ
  pub whole : (more : ℕ) → bound ≤ more → n ≤ count more

-- the inbound links and those to gateways
abbrev pub inbound_below : Machine → ℕ → ℕ
inbound_below x bound = sum_below (λ l. one_if (counts (x.inbound l).phase)) bound

abbrev pub gates_below : Machine → ℕ → ℕ
gates_below x bound = sum_below (λ l. one_if (carries (x.gates l).phase)) bound

-- the tunnels of inbound links, and the plain links
abbrev pub streams_below : Machine → ℕ → ℕ
streams_below x bound = sum_below (λ l. tunnels_on (x.inbound l) bound) bound

abbrev pub plain_below : Machine → ℕ → ℕ
plain_below x bound = sum_below (λ l. one_if (is_placed (x.plain l).stage)) bound
