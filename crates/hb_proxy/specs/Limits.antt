-- Never more links and tunnels than may be; and small steps that the limits refuse.
use Rattle.std.specs.Prelude.{◌≡◌, ℕ, ◌+◌, ◌≤◌, Bool, true, false, List}
use Rattle.hb_captured.specs.Captured as captured
use Rattle.hb_captured.specs.Part as captured_part
use Rattle.hb_gateway.specs.Gateway.{carries}
use Rattle.hb_gateway.specs.Key.{Key}
use Rattle.hb_gateway.specs.Part as gateway_part
use Rattle.hb_inbound.specs.Inbound as link
use Rattle.hb_inbound.specs.Inbound.{Inbound}
use Rattle.hb_inbound.specs.Part as part
use Rattle.hb_inbound.specs.Runs as inbound
use Rattle.hb_model.specs.declared.config.NodeConfig.{NodeConfig}
use Rattle.hb_verdict.specs.declared.verdict.Verdict.{Verdict}
use Rattle.hb_world.specs.declared.entry.Entry.{Entry}
use Rattle.hb_proxy.specs.Load.{most_links, most_tunnels, sum_below, one_if, tunnels_on, links_below, tunnels_below, CountsTo}
use Rattle.hb_proxy.specs.Machine.{Machine, local}
use Rattle.hb_proxy.specs.Points.{Point, of_link, of_plain, of_gate}
use Rattle.hb_proxy.specs.Runs.{Steps, StandsFor}

-- THOSE THAT WERE TAKEN IN

abbrev pub is_in : link.Phase → Bool
is_in link.fronting = true
is_in link.serving = true
is_in _ = false

abbrev pub has_place : captured.Stage → Bool
has_place captured.fronting = true
has_place captured.due = true
has_place captured.opening = true
has_place captured.accepting = true
has_place captured.live = true
has_place _ = false

abbrev pub links_in : Machine → ℕ → ℕ
links_in x l = one_if (is_in (x.inbound l).phase) + one_if (carries (x.gates l).phase)

abbrev pub tunnels_in : Machine → (bound : ℕ) → ℕ → ℕ
tunnels_in x bound l = tunnels_on (x.inbound l) bound + one_if (has_place (x.plain l).stage)

-- however far one looks, never more links and never more tunnels than may be
abbrev pub LinksWithin : NodeConfig → Machine → Type 0
LinksWithin g x = (bound : ℕ) → sum_below (links_in x) bound ≤ most_links g

abbrev pub TunnelsWithin : NodeConfig → Machine → Type 0
TunnelsWithin g x = (bound : ℕ) → sum_below (tunnels_in x bound) bound ≤ most_tunnels g

abbrev pub NeverMoreLinks : Type 0
NeverMoreLinks = (g : NodeConfig) (x : Machine) (points : List Point) → StandsFor g x points → LinksWithin g x

abbrev pub NeverMoreTunnels : Type 0
NeverMoreTunnels = (g : NodeConfig) (x : Machine) (points : List Point) → StandsFor g x points → TunnelsWithin g x

-- of every machine that stands for these points
abbrev pub LimitLaw : NodeConfig → List Point → Type 0
LimitLaw g points = (x : Machine) → StandsFor g x points → LinksWithin g x × TunnelsWithin g x

-- STEPS THAT ARE REFUSED

-- a request finds all places taken where one is taken of two; and it finds one where as many are taken as may be
abbrev pub FindsNoPlace : Type 0
FindsNoPlace = (g : NodeConfig) (x y : Machine) (l s : ℕ) (answer : Verdict)
    → most_tunnels g ≡ 2 → ((bound : ℕ) → tunnels_below x bound ≤ 1) → Steps g x (of_link l (part.decided s true answer)) y → ⊥

abbrev pub FindsPlaceBeyond : Type 0
FindsPlaceBeyond = (g : NodeConfig) (x y : Machine) (l s bound : ℕ) (answer : Verdict)
    → most_tunnels g ≤ tunnels_below x bound → Steps g x (of_link l (part.decided s false answer)) y → ⊥

-- the first inbound link is turned away; one more than may be is taken in
abbrev pub TurnsAwayFirst : Type 0
TurnsAwayFirst = (g : NodeConfig) (x y : Machine) (l : ℕ)
    → most_links g ≡ 1024 → ((bound : ℕ) → links_below x bound ≤ 1) → Steps g x (of_link l part.crowded) y → ⊥

abbrev pub WelcomesBeyond : Type 0
WelcomesBeyond = (g : NodeConfig) (x y : Machine) (l bound : ℕ)
    → most_links g ≡ 1024 → links_below x bound ≡ 1025 → Steps g x (of_link l part.welcomed) y → ⊥

-- so it is of plain links
abbrev pub TurnsAwayPlain : Type 0
TurnsAwayPlain = (g : NodeConfig) (x y : Machine) (l : ℕ)
    → most_tunnels g ≡ 4096 → ((bound : ℕ) → tunnels_below x bound ≤ 1) → Steps g x (of_plain l captured_part.crowded) y → ⊥

abbrev pub WelcomesPlainBeyond : Type 0
WelcomesPlainBeyond = (g : NodeConfig) (x y : Machine) (l bound : ℕ)
    → most_tunnels g ≡ 1 → tunnels_below x bound ≡ 2 → Steps g x (of_plain l captured_part.welcomed) y → ⊥

-- a way by a gateway is refused for want of room where no link is there; a link to a gateway is dialled where as many are as may be
abbrev pub RefusesWithNone : Type 0
RefusesWithNone = (g : NodeConfig) (x y : Machine) (l : ℕ)
    → most_links g ≡ 1024 → ((bound : ℕ) → links_below x bound ≡ 0) → Steps g x (of_plain l captured_part.roomless) y → ⊥

abbrev pub DialsGateBeyond : Type 0
DialsGateBeyond = (g : NodeConfig) (x y : Machine) (n bound : ℕ) (z : Entry) (key : Key)
    → most_links g ≤ links_below x bound → Steps g x (of_gate n (gateway_part.dialled z key)) y → ⊥

-- COUNTS THAT ARE NONE, AND ONE THAT IS

-- a count that grows with its bound comes to no number, and one that comes to one comes to no other; none come to 0
abbrev pub CountsEndless : Type 0
CountsEndless = (n : ℕ) → CountsTo (λ bound. bound) n → ⊥

abbrev pub CountsTwice : Type 0
CountsTwice = (count : ℕ → ℕ) → CountsTo count 1 → CountsTo count 2 → ⊥

abbrev pub CountsNone : Type 0
CountsNone = CountsTo (λ bound. 0) 0

-- two links, or two tunnels, aren't within a limit of one
abbrev pub HasMoreLinks : Type 0
HasMoreLinks = (g : NodeConfig) (x : Machine) (bound : ℕ) → most_links g ≡ 1 → sum_below (links_in x) bound ≡ 2 → LinksWithin g x → ⊥

abbrev pub HasMoreTunnels : Type 0
HasMoreTunnels = (g : NodeConfig) (x : Machine) (bound : ℕ) → most_tunnels g ≡ 1 → sum_below (tunnels_in x bound) bound ≡ 2
    → TunnelsWithin g x → ⊥

-- STEPS THAT MAY GO

-- a request finds a place where one is taken of two, and none where as many are taken as may be
abbrev pub FindsPlace : Type 0
FindsPlace = (g : NodeConfig) (x : Machine) (l s : ℕ) (answer : Verdict) (next : Inbound)
    → most_tunnels g ≡ 2 → ((bound : ℕ) → tunnels_below x bound ≤ 1)
    → inbound.Steps l (local x l) (part.decided s false answer) (inbound.with_link next (local x l))
    → (y : Machine) × Steps g x (of_link l (part.decided s false answer)) y

abbrev pub FindsAllTaken : Type 0
FindsAllTaken = (g : NodeConfig) (x : Machine) (l s bound : ℕ) (answer : Verdict) (next : Inbound)
    → most_tunnels g ≡ 2 → tunnels_below x bound ≡ 2
    → inbound.Steps l (local x l) (part.decided s true answer) (inbound.with_link next (local x l))
    → (y : Machine) × Steps g x (of_link l (part.decided s true answer)) y

-- the 1,025th link is turned away, the 1,024th is taken in
abbrev pub TurnsAwayBeyond : Type 0
TurnsAwayBeyond = (g : NodeConfig) (x : Machine) (l bound : ℕ)
    → most_links g ≡ 1024 → links_below x bound ≡ 1025 → (x.inbound l).phase ≡ link.arriving
    → (y : Machine) × Steps g x (of_link l part.crowded) y

abbrev pub WelcomesLast : Type 0
WelcomesLast = (g : NodeConfig) (x : Machine) (l : ℕ)
    → most_links g ≡ 1024 → ((bound : ℕ) → links_below x bound ≤ 1024) → (x.inbound l).phase ≡ link.arriving
    → (y : Machine) × Steps g x (of_link l part.welcomed) y
