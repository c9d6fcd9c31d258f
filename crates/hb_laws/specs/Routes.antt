-- Ways by the points of a run: each goes by the node's port of gateways, and by how many connections each endpoint has then. And how much
-- waits on the ways of a plain link.
use Rattle.std.specs.Prelude.{⊤, ◌≡◌, ℕ, ◌+◌, ◌≤◌, Bool, true, false, if◌then◌else◌, List, length, Option, Some, None}
use Rattle.hb_captured.specs.Answer.{Aim, Routing, endpoint_of}
use Rattle.hb_captured.specs.Captured.{ring_up, ring_down}
use Rattle.hb_captured.specs.Part as captured
use Rattle.hb_captured.specs.Sides.{raw_came, up_came, up_went, link_went, door_of, aim_of, Course, pending, lives, course_of}
use Rattle.hb_model.specs.declared.config.NodeConfig.{NodeConfig}
use Rattle.hb_proxy.specs.Held.{at_start}
use Rattle.hb_proxy.specs.Load.{sum_below}
use Rattle.hb_proxy.specs.Owners.{AtEach}
use Rattle.hb_proxy.specs.Points.{Point, of_plain, entries, plain_of}
use Rattle.hb_proxy.specs.Streams.{is_one_to}
use Rattle.hb_route.specs.Opens.{open_at}
use Rattle.hb_world.specs.Trace.{births}

-- its header was whole, and it didn't end
abbrev pub goes_on : Course → Bool
goes_on pending = true
goes_on lives = true
goes_on course = false

abbrev pub endpoint_in : Option Aim → Option (List ℕ)
endpoint_in None = None
endpoint_in (Some aim) = endpoint_of aim

-- to which endpoint a plain link is a connection behind these points: to that of its way, from its whole header on until its end
abbrev pub connects_to : NodeConfig → List Point → ℕ → Option (List ℕ)
connects_to g before l =
    if goes_on (course_of (at_start g) (plain_of l before)) then endpoint_in (aim_of (plain_of l before)) else None

-- how many of the links that were born are one to the endpoint of this name
abbrev pub connections_to : NodeConfig → List Point → List ℕ → ℕ
connections_to g before name = sum_below (λ l. is_one_to name (connects_to g before l)) (births (entries before) + 1)

-- what a way goes by behind these points: the port of the node, and how many connections each endpoint has
pub record IsRouting (g : NodeConfig) (before : List Point) (routing : Routing) : Type 0 where
  pub port : routing.hbone_port ≡ g.hbone_port
  pub counts : (name : List ℕ) → open_at routing.opens name ≡ connections_to g before name

-- where the header of a plain link gets its answer
abbrev pub RoutesBy : NodeConfig → List Point → captured.Part → Type 0
RoutesBy g before (captured.fronted seen routing aim) = IsRouting g before routing
RoutesBy g before (captured.refused seen routing why status note) = IsRouting g before routing
RoutesBy g before part = ⊤

abbrev pub RoutesAt : NodeConfig → List Point → Point → Type 0
RoutesAt g before (of_plain l p) = RoutesBy g before p
RoutesAt g before p = ⊤

abbrev pub RouteLaw : NodeConfig → List Point → Type 0
RouteLaw g points = AtEach (RoutesAt g) points

-- RINGS: of the bytes that came behind its front header all are written, or put on its stream, but for a ring of its door at most; and of
-- those that came from the other side all are written to it but for the other ring
pub record RingLaw (parts : List captured.Part) : Type 0 where
  pub up : length (raw_came parts) ≤ length (up_went parts) + ring_up (door_of parts)
  pub down : length (up_came parts) ≤ length (link_went parts) + ring_down (door_of parts)
