-- Small steps and runs of a link of the outbound door: what no run of the whole proxy does, and what may go, unlike at the plain door.
use Rattle.std.specs.Prelude.{◌≡◌, ℕ, ◌<◌, true, List, [], ◌∷◌, ◌++◌, map, None}
use Rattle.hb_base.specs.declared.door.Door.TheVariants as door
use Rattle.hb_base.specs.declared.door.Why.TheVariants as whys
use Rattle.hb_base.specs.declared.note.Note.{Note}
use Rattle.hb_base.specs.declared.target.Target.{Target}
use Rattle.hb_captured.specs.Answer.{straight_to, unrouted}
use Rattle.hb_captured.specs.Part as captured
use Rattle.hb_captured.specs.Refused as plain
use Rattle.hb_disco.specs.declared.response.Response.{Response}
use Rattle.hb_front.specs.Reading.{Seen}
use Rattle.hb_model.specs.Point as point
use Rattle.hb_model.specs.declared.config.NodeConfig.{NodeConfig}
use Rattle.hb_world.specs.declared.entry.Entry.TheVariants as e
use Rattle.hb_proxy.specs.Access.{AccessLaw}
use Rattle.hb_proxy.specs.Held.{at_start}
use Rattle.hb_proxy.specs.Load.{most_tunnels}
use Rattle.hb_proxy.specs.Machine.{Machine}
use Rattle.hb_proxy.specs.Owners.{OwnLaw, UpstreamLaw}
use Rattle.hb_proxy.specs.Points.{Point, of_control, of_plain}
use Rattle.hb_proxy.specs.Refused.{IsLawful}
use Rattle.hb_proxy.specs.Runs.{Steps, StandsFor}

-- WHAT NO RUN DOES

-- two upstreams are dialled for one link, one as if it were of the plain door
abbrev pub OutboundDialsTwice : Type 0
OutboundDialsTwice = (to other : Target)
    → UpstreamLaw (e.Accepted 2 door.Outbound ∷ e.Dialled 3 to (whys.Direct 2) ∷ e.Dialled 4 other (whys.Plain 2) ∷ []) → ⊥

-- a link is accepted behind the end of the run
abbrev pub OutboundBehindEnd : Type 0
OutboundBehindEnd = (g : NodeConfig) (x y : Machine) (l : ℕ)
    → x.control.over ≡ true → Steps g x (of_plain l (captured.entry (e.Accepted l door.Outbound))) y → ⊥

-- the upstream of one is read as a plain link
abbrev pub OutboundReadsUpstream : Type 0
OutboundReadsUpstream = (to : Target) (bytes : List ℕ)
    → OwnLaw (of_plain 1 (captured.entry (e.Accepted 1 door.Outbound)) ∷ of_plain 1 (captured.up (e.Dialled 2 to (whys.Direct 1)))
    ∷ of_plain 2 (captured.entry (e.Came 2 bytes)) ∷ []) → ⊥

-- WHAT MAY GO

-- the control plane is dialled, and a link is accepted and taken in
abbrev pub outbound_begun : Target → List Point
outbound_begun to =
    of_control (point.entry (e.Dialled 1 to whys.Discovery)) ∷ of_plain 2 (captured.entry (e.Accepted 2 door.Outbound))
    ∷ of_plain 2 captured.welcomed ∷ []

abbrev pub OutboundRunMayGo : Type 0
OutboundRunMayGo = (g : NodeConfig) → 0 < most_tunnels g → (x : Machine) × StandsFor g x (outbound_begun g.discovery)

-- so the laws let it
abbrev pub OutboundRunIsLawful : Type 0
OutboundRunIsLawful = (g : NodeConfig) → 0 < most_tunnels g → IsLawful g (outbound_begun g.discovery)

-- the link 2 lives, of which these bytes came, and its upstream is link 3, at this address; and a response is applied
abbrev pub outbound_updated : (control : Target) → List ℕ → Seen → (address : Target) → Note → Response → List Point
outbound_updated control bytes seen address note r =
    of_control (point.entry (e.Dialled 1 control whys.Discovery))
    ∷ map (of_plain 2) (captured.entry (e.Accepted 2 door.Outbound) ∷ captured.welcomed ∷ captured.entry (e.Came 2 bytes)
    ∷ captured.fronted seen unrouted (straight_to address None) ∷ captured.up (e.Dialled 3 address (whys.Direct 2))
    ∷ captured.up (e.Opened 3) ∷ captured.accepted note ∷ [])
    ++ of_control (point.applied 1 r) ∷ []

-- behind one that wouldn't admit its peer bytes may go on to the upstream, and to the link
abbrev pub OutboundGoesOn : Type 0
OutboundGoesOn =
    (g : NodeConfig) (control : Target) (bytes : List ℕ) (seen : Seen) (address : Target) (note : Note) (r : Response) (more : List ℕ)
    → plain.IsRevoked (at_start g) seen r
    → AccessLaw g (outbound_updated control bytes seen address note r ++ of_plain 2 (captured.up (e.Went 3 more)) ∷ [])

abbrev pub OutboundGoesBack : Type 0
OutboundGoesBack =
    (g : NodeConfig) (control : Target) (bytes : List ℕ) (seen : Seen) (address : Target) (note : Note) (r : Response) (more : List ℕ)
    → plain.IsRevoked (at_start g) seen r
    → AccessLaw g (outbound_updated control bytes seen address note r ++ of_plain 2 (captured.entry (e.Went 2 more)) ∷ [])
