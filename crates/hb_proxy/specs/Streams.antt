-- The streams of links to gateways that carry tunnels of plain links: which takes which, and that both say the same.
use Rattle.std.specs.Prelude.{⊤, ◌≡◌, ◌≢◌, ◌⊎◌, ℕ, zero, suc, ◌+◌, if◌then◌else◌, true, false, List, ◌∷◌, ◌++◌, Option, Some, None}
use Rattle.std.specs.Str.{bytes_eq}
use Rattle.hb_base.specs.declared.target.Target.{Target}
use Rattle.hb_captured.specs.Captured.{Captured, is_raw, counts_for}
use Rattle.hb_captured.specs.Part as captured
use Rattle.hb_captured.specs.Runs.{Fits}
use Rattle.hb_gateway.specs.Gateway.{Stream}
use Rattle.hb_gateway.specs.Part as gateway
use Rattle.hb_gateway.specs.Response.{is_living, brings}
use Rattle.hb_model.specs.declared.config.NodeConfig.{NodeConfig}
use Rattle.hb_route.specs.Opens.{open_at}
use Rattle.hb_proxy.specs.Machine.{Machine}
use Rattle.hb_proxy.specs.Owners.{AtEach}
use Rattle.hb_proxy.specs.Points.{Point, of_plain, of_gate, of_stream}
use Rattle.hb_proxy.specs.Runs.{StandsFor, DialsGate, IsWanted, Asks}
use Rattle.hb_proxy.specs.Shared.{Shared, asks}

-- WHICH LINK A TUNNEL TAKES: behind these points a stream is asked for, a link to a gateway is dialled, or a plain link is refused for want
-- of room, and the links to gateways are such that it may
abbrev pub StreamTakes : Machine → (l g : ℕ) → Shared → Type 0
StreamTakes x l g (asks authority) = Asks x l g authority
StreamTakes x l g w = ⊤

abbrev pub GateTakes : Machine → gateway.Part → Type 0
GateTakes x (gateway.dialled e key) = IsWanted x e key
GateTakes x p = ⊤

abbrev pub PlainTakes : Machine → ℕ → captured.Part → Type 0
PlainTakes x l captured.roomless = DialsGate x l
PlainTakes x l p = ⊤

abbrev pub Takes : Machine → Point → Type 0
Takes x (of_stream l g s w) = StreamTakes x l g w
Takes x (of_gate g p) = GateTakes x p
Takes x (of_plain l p) = PlainTakes x l p
Takes x p = ⊤

pub record TakesAt (g : NodeConfig) (before : List Point) (p : Point) : Type 0 where
  pub machine : Machine
  pub stands : StandsFor g machine before
  pub takes : Takes machine p

abbrev pub PoolLaw : NodeConfig → List Point → Type 0
PoolLaw g points = AtEach (TakesAt g) points

-- a stream was asked for, for this plain link
pub record IsAsked (points : List Point) (l g s : ℕ) : Type 0 where
  pub authority : Target
  pub before : List Point
  pub behind : List Point
  pub at : points ≡ before ++ of_stream l g s (asks authority) ∷ behind

-- EACH TUNNEL HAS ONE STREAM, AND EACH STREAM ONE TUNNEL: a stream has one until that has been told its failure, or was given up
abbrev pub HasTunnel : Stream → Type 0
HasTunnel t = (is_living t.stage ≡ true) ⊎ (t.mail ≢ None)

pub record StreamsAgree (x : Machine) : Type 0 where
  pub carried : (l : ℕ) → is_raw (x.plain l) ≡ false
      → HasTunnel ((x.gates (x.plain l).gate).streams (x.plain l).stream)
      × (((x.gates (x.plain l).gate).streams (x.plain l).stream).captured ≡ l)
  pub carries : (g s : ℕ) → HasTunnel ((x.gates g).streams s)
      → ((x.plain ((x.gates g).streams s).captured).gate ≡ g) × ((x.plain ((x.gates g).streams s).captured).stream ≡ s)

abbrev pub RunsAgree : Type 0
RunsAgree = (g : NodeConfig) (x : Machine) (points : List Point) → StandsFor g x points → StreamsAgree x

-- what a gateway brings fits the ring of the link that it is brought to
abbrev pub RunsFit : Type 0
RunsFit = (g : NodeConfig) (x : Machine) (points : List Point) (n s : ℕ) (bytes : List ℕ) → StandsFor g x points
    → ((x.gates n).streams s).mail ≡ Some (brings bytes) → Fits bytes (x.plain ((x.gates n).streams s).captured)

-- CONNECTIONS TO ENDPOINTS are counted: of the plain links up to a number those that are one to this endpoint
abbrev pub is_one_to : List ℕ → Option (List ℕ) → ℕ
is_one_to name None = 0
is_one_to name (Some other) = if bytes_eq other name then 1 else 0

abbrev pub number_to : List ℕ → (ℕ → Captured) → ℕ → ℕ
number_to name plain zero = 0
number_to name plain (suc n) = number_to name plain n + is_one_to name (counts_for (plain (suc n)))

abbrev pub RunsCountOpens : Type 0
RunsCountOpens = (g : NodeConfig) (x : Machine) (points : List Point) (name : List ℕ) → StandsFor g x points
    → open_at x.opens name ≡ number_to name x.plain x.born
