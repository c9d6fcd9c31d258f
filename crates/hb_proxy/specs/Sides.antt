-- What the trace says of a link is what the link's part says of it.
use Rattle.std.specs.Prelude.{◌≡◌, ◌≢◌, ℕ, false, List, [], ◌∷◌, ◌++◌}
use Rattle.hb_captured.specs.Part as captured
use Rattle.hb_captured.specs.Sides as plain
use Rattle.hb_captured.specs.Sides.{was, is_asked}
use Rattle.hb_gateway.specs.Part as gateway
use Rattle.hb_inbound.specs.Part.{Part}
use Rattle.hb_inbound.specs.Sides.{link_came, link_went, up_came, up_went}
use Rattle.hb_model.specs.Calls.{IsControl}
use Rattle.hb_model.specs.Point as model
use Rattle.hb_world.specs.Trace.{recv, sent}
use Rattle.hb_proxy.specs.Owners.{owner, control_plane, inbound_link, upstream_of, plain_link, relay_of, gateway_link}
use Rattle.hb_proxy.specs.Points.{Point, of_link, of_plain, entries, control_of, parts_of, plain_of, gates_of}

-- the bytes that came and went on a link to the control plane are those of the control plane's points
pub record ControlSide (points : List Point) (l : ℕ) : Type 0 where
  pub came : recv l (entries points) ≡ recv l (model.entries (control_of points))
  pub went : sent l (entries points) ≡ sent l (model.entries (control_of points))

-- those on an inbound link are those of its part
pub record LinkSide (points : List Point) (l : ℕ) : Type 0 where
  pub came : recv l (entries points) ≡ link_came (parts_of l points)
  pub went : sent l (entries points) ≡ link_went (parts_of l points)

-- and those on the upstream of a stream of it
pub record UpSide (points : List Point) (l s u : ℕ) : Type 0 where
  pub came : recv u (entries points) ≡ up_came s (parts_of l points)
  pub went : sent u (entries points) ≡ up_went s (parts_of l points)

-- a stream without an upstream has no such bytes
pub record NoSide (points : List Point) (l s : ℕ) : Type 0 where
  pub came : up_came s (parts_of l points) ≡ []
  pub went : up_went s (parts_of l points) ≡ []

-- those on a plain link, and on its upstream, are those of its part
pub record PlainSide (points : List Point) (l : ℕ) : Type 0 where
  pub came : recv l (entries points) ≡ plain.link_came (plain_of l points)
  pub went : sent l (entries points) ≡ plain.link_went (plain_of l points)

pub record RelaySide (points : List Point) (l u : ℕ) : Type 0 where
  pub came : recv u (entries points) ≡ plain.up_came (plain_of l points)
  pub went : sent u (entries points) ≡ plain.up_went (plain_of l points)

-- a plain link without an upstream or a stream has no bytes of one
pub record NoRelaySide (points : List Point) (l : ℕ) : Type 0 where
  pub came : plain.up_came (plain_of l points) ≡ []
  pub went : plain.up_went (plain_of l points) ≡ []

-- those on a link to a gateway are those of its part
pub record GateSide (points : List Point) (g : ℕ) : Type 0 where
  pub came : recv g (entries points) ≡ gateway.link_came (gates_of g points)
  pub went : sent g (entries points) ≡ gateway.link_went (gates_of g points)

-- a link that the trace tells to be one to the control plane is one by its owner, and by the control plane's points
pub record IsKnown (points : List Point) (l : ℕ) : Type 0 where
  pub owned : owner l (entries points) ≡ control_plane
  pub told : IsControl l (model.entries (control_of points))

pub record SideLaw (points : List Point) : Type 0 where
  pub known : (l : ℕ) → IsControl l (entries points) → IsKnown points l
  pub control : (l : ℕ) → owner l (entries points) ≡ control_plane → ControlSide points l
  pub link : (l : ℕ) → owner l (entries points) ≡ inbound_link → LinkSide points l
  pub up : (l s u : ℕ) → owner u (entries points) ≡ upstream_of l s → UpSide points l s u
  pub none : (l s : ℕ) → ((u : ℕ) → owner u (entries points) ≢ upstream_of l s) → NoSide points l s
  pub plain : (l : ℕ) → owner l (entries points) ≡ plain_link → PlainSide points l
  pub relay : (l u : ℕ) → owner u (entries points) ≡ relay_of l → RelaySide points l u
  pub no_relay : (l : ℕ) → ((u : ℕ) → owner u (entries points) ≢ relay_of l) → was is_asked (plain_of l points) ≡ false
      → NoRelaySide points l
  pub gate : (g : ℕ) → owner g (entries points) ≡ gateway_link → GateSide points g

-- at each part of an inbound link: what holds of the points before it, of the link, and of the part there
abbrev pub AtParts : (List Point → ℕ → Part → Type 0) → List Point → Type 0
AtParts P points = (before : List Point) (l : ℕ) (p : Part) (behind : List Point) → points ≡ before ++ of_link l p ∷ behind → P before l p

-- and at each part of a plain one
abbrev pub AtPlain : (List Point → ℕ → captured.Part → Type 0) → List Point → Type 0
AtPlain P points = (before : List Point) (l : ℕ) (p : captured.Part) (behind : List Point) → points ≡ before ++ of_plain l p ∷ behind
    → P before l p
