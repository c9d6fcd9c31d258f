-- Small traces of links of the outbound door and of their upstreams that no run leaves, and places that no lawful trace has.
use Rattle.std.specs.Prelude.{◌≡◌, ◌≢◌, ℕ, false, List, [], ◌∷◌, ◌++◌, Option, Some, None}
use Rattle.std.specs.List.{list_any}
use Rattle.hb_base.specs.declared.cause.Cause.{Cause}
use Rattle.hb_base.specs.declared.cause.Cause.TheVariants as cause
use Rattle.hb_base.specs.declared.door.Door.TheVariants as door
use Rattle.hb_base.specs.declared.door.Why.TheVariants as whys
use Rattle.hb_base.specs.declared.target.Target.{Target}
use Rattle.hb_captured.specs.Answer as answer
use Rattle.hb_captured.specs.Answer.{Routing, answer_on}
use Rattle.hb_captured.specs.Ends.{GoesOn}
use Rattle.hb_captured.specs.Sides.{door_of, header_of, course_of}
use Rattle.hb_disco.specs.declared.response.Response.{Response}
use Rattle.hb_front.specs.Reading.{Seen}
use Rattle.hb_model.specs.Inner.{is_stop}
use Rattle.hb_model.specs.Messages.{held}
use Rattle.hb_model.specs.Point as point
use Rattle.hb_model.specs.declared.config.NodeConfig.{NodeConfig}
use Rattle.hb_proxy.specs.Held.{at_start}
use Rattle.hb_proxy.specs.Points.{Point, of_control, control_of, plain_of}
use Rattle.hb_world.specs.declared.entry.Entry.{Entry}
use Rattle.hb_world.specs.declared.entry.Entry.TheVariants as e
use Rattle.hb_laws.specs.Refused.{Refused, dials, fails}
use Rattle.hb_laws.specs.RefusedPlain.{accepts_plain, IsOf}

-- link 2 is accepted at the outbound door
abbrev pub accepts_outbound : Entry
accepts_outbound = e.Accepted 2 door.Outbound

-- DIALS

-- the upstream of an outbound link is dialled as one of the plain door, and the other way round
abbrev pub DialsAsPlain : Type 0
DialsAsPlain = (to : Target) (came : List ℕ)
    → Refused (λ g. dials g ∷ accepts_outbound ∷ e.Came 2 came ∷ e.Dialled 3 to (whys.Plain 2) ∷ [])

abbrev pub DialsAsDirect : Type 0
DialsAsDirect = (to : Target) (came : List ℕ)
    → Refused (λ g. dials g ∷ accepts_plain ∷ e.Came 2 came ∷ e.Dialled 3 to (whys.Direct 2) ∷ [])

-- one is dialled though no response ever came; and bytes go to its upstream
abbrev pub DialsUntold : Type 0
DialsUntold = (to : Target) (came : List ℕ)
    → Refused (λ g. fails g ∷ e.Accepted 1 door.Outbound ∷ e.Came 1 came ∷ e.Dialled 2 to (whys.Direct 1) ∷ [])

abbrev pub RelaysUntold : Type 0
RelaysUntold = (to : Target) (came bytes : List ℕ)
    → Refused (λ g. fails g ∷ e.Accepted 1 door.Outbound ∷ e.Came 1 came ∷ e.Dialled 2 to (whys.Direct 1) ∷ e.Opened 2 ∷ e.Went 2 bytes
    ∷ [])

-- PLACES

-- the front header of a link was told at one of these points, behind those in front of it
pub record IsAsked (g : NodeConfig) (link : ℕ) (seen : Seen) (points : List Point) : Type 0 where
  pub front : List Point
  pub p : Point
  pub rest : List Point
  pub points_are : points ≡ front ++ p ∷ rest
  pub untold : header_of (plain_of link front) ≡ None
  pub told : header_of (plain_of link (front ++ p ∷ [])) ≡ Some seen

-- a link whose header has no route is dialled all the same
pub record DialsUnrouted (g : NodeConfig) (before : List Point) (z : Entry) : Type 0 where
  pub link : ℕ
  pub up : ℕ
  pub to : Target
  pub seen : Seen
  pub why : Cause
  pub status : ℕ
  pub dialled : z ≡ e.Dialled up to (whys.Direct link)
  pub asked : IsAsked g link seen before
  -- whatever connections are counted
  pub unrouted : (routing : Routing) → answer_on door.Outbound (held g (control_of asked.front)) routing seen
      ≡ answer.refuses why status

-- one is dialled elsewhere than its route leads
pub record DialsAstray (g : NodeConfig) (before : List Point) (z : Entry) : Type 0 where
  pub link : ℕ
  pub up : ℕ
  pub to : Target
  pub other : Target
  pub seen : Seen
  pub dialled : z ≡ e.Dialled up other (whys.Direct link)
  pub asked : IsAsked g link seen before
  pub endpoint : Option (List ℕ)
  pub routed : (routing : Routing) → answer_on door.Outbound (held g (control_of asked.front)) routing seen
      ≡ answer.aims (answer.straight_to to endpoint)
  pub differs : to ≢ other

-- a link that goes on is closed next behind an update, or its upstream is, for whatever cause
pub record ClosesUpdated (g : NodeConfig) (before : List Point) (z : Entry) : Type 0 where
  pub front : List Point
  pub control : ℕ
  pub response : Response
  pub before_is : before ≡ front ++ of_control (point.applied control response) ∷ []
  pub link : ℕ
  pub on : ℕ
  pub why : Cause
  pub closes : z ≡ e.Closed on why
  pub of_it : IsOf link on before
  pub outbound : door_of (plain_of link front) ≡ door.Outbound
  pub goes_on : GoesOn (course_of (at_start g) (plain_of link front))

-- and so it is at any later place for the cause of such an update, though nothing stopped the run
pub record ClosesRevoked (g : NodeConfig) (before : List Point) (z : Entry) : Type 0 where
  pub link : ℕ
  pub on : ℕ
  pub closes : z ≡ e.Closed on cause.Revoked
  pub of_it : IsOf link on before
  pub outbound : door_of (plain_of link before) ≡ door.Outbound
  pub going : list_any is_stop (control_of before) ≡ false
