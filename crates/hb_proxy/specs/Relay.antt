-- The relay law over the whole trace: what is written to each side of a tunnel is a front of what came from the other.
use Rattle.std.specs.Prelude.{◌≡◌, ◌≢◌, ℕ, false, List, [], ◌++◌}
use Rattle.hb_captured.specs.Sides.{header_of, behind, was, is_asked}
use Rattle.hb_frames.specs.RawFrame.{RawFrame}
use Rattle.hb_gateway.specs.Connections.{IsOneHistory}
use Rattle.hb_gateway.specs.Sides.{came_on}
use Rattle.hb_inbound.specs.Relay.{MayGoUp, MayEnd}
use Rattle.hb_inbound.specs.Sides.{stream_came}
use Rattle.hb_kept.specs.Payloads.{Began, payloads}
use Rattle.hb_world.specs.Trace.{recv, sent}
use Rattle.hb_proxy.specs.Owners.{owner, inbound_link, upstream_of, relay_of, plain_link}
use Rattle.hb_proxy.specs.Points.{Point, entries, parts_of, plain_of, gates_of}
use Rattle.hb_proxy.specs.Sides.{AtParts}
use Rattle.hb_proxy.specs.Streams.{IsAsked}

-- the bytes that went to the upstream u of a stream are a front of the DATA that came on the stream
pub record RelaysUp (points : List Point) (l s u : ℕ) : Type 0 where
  pub rest : List ℕ
  pub front : stream_came s (parts_of l points) ≡ sent u (entries points) ++ rest

-- What went on the link is frames that have begun, of which the last may be in part; the DATA of the stream in them, the last frame
-- counted whole, is a front of the bytes that came from its upstream u
pub record RelaysDown (points : List Point) (l s u : ℕ) : Type 0 where
  pub begun : List RawFrame
  pub began : Began (sent l (entries points)) begun
  pub rest : List ℕ
  pub front : recv u (entries points) ≡ payloads s begun ++ rest

-- on a stream without an upstream no DATA goes
pub record SendsNone (points : List Point) (l s : ℕ) : Type 0 where
  pub begun : List RawFrame
  pub began : Began (sent l (entries points)) begun
  pub none : payloads s begun ≡ []

-- PLAIN LINKS

-- the bytes that came on a plain link behind its front header, once that is whole
abbrev pub came_behind : List Point → ℕ → List ℕ
came_behind points l = behind (header_of (plain_of l points)) (recv l (entries points))

-- the bytes that went to its upstream u are a front of those, and those that went on the link are a front of what came from the upstream
pub record PlainRelaysUp (points : List Point) (l u : ℕ) : Type 0 where
  pub rest : List ℕ
  pub front : came_behind points l ≡ sent u (entries points) ++ rest

pub record PlainRelaysDown (points : List Point) (l u : ℕ) : Type 0 where
  pub rest : List ℕ
  pub front : recv u (entries points) ≡ sent l (entries points) ++ rest

-- BY A GATEWAY: the DATA of a plain link's stream in the frames that have begun on the link to the gateway is a front of the bytes that came
-- on the plain link behind its header; and those that went on it are a front of the DATA that came on the stream
pub record StreamRelaysUp (points : List Point) (l g s : ℕ) : Type 0 where
  pub history : IsOneHistory (gates_of g points)
  pub rest : List ℕ
  pub front : came_behind points l ≡ payloads s history.stands.begun ++ rest

pub record StreamRelaysDown (points : List Point) (l g s : ℕ) : Type 0 where
  pub rest : List ℕ
  pub front : came_on s (gates_of g points) ≡ sent l (entries points) ++ rest

-- So it is of each upstream, and of each inbound link; bytes go, and a side ends, only where they may. So it is of each plain link, with its
-- upstream or its stream; on one without either no byte goes
pub record RelayLaw (points : List Point) : Type 0 where
  pub ups : (l s u : ℕ) → owner u (entries points) ≡ upstream_of l s → RelaysUp points l s u
  pub downs : (l s u : ℕ) → owner u (entries points) ≡ upstream_of l s → RelaysDown points l s u
  pub none : (l s : ℕ) → owner l (entries points) ≡ inbound_link → ((u : ℕ) → owner u (entries points) ≢ upstream_of l s)
      → SendsNone points l s
  pub goes : AtParts (λ before l p. MayGoUp (parts_of l before) p) points
  pub ends : AtParts (λ before l p. MayEnd (parts_of l before) p) points
  pub plain_ups : (l u : ℕ) → owner u (entries points) ≡ relay_of l → PlainRelaysUp points l u
  pub plain_downs : (l u : ℕ) → owner u (entries points) ≡ relay_of l → PlainRelaysDown points l u
  pub plain_none : (l : ℕ) → owner l (entries points) ≡ plain_link → ((u : ℕ) → owner u (entries points) ≢ relay_of l)
      → was is_asked (plain_of l points) ≡ false → sent l (entries points) ≡ []
  pub stream_ups : (l g s : ℕ) → IsAsked points l g s → StreamRelaysUp points l g s
  pub stream_downs : (l g s : ℕ) → IsAsked points l g s → StreamRelaysDown points l g s
