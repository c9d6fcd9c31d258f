-- Whose a link is, as its birth in the trace tells, and that no part's entries stand on a link of another part.
use Rattle.std.specs.Prelude.{⊤, ◌≡◌, ℕ, ◌+◌, ◌==◌, if◌then◌else◌, fold, List, ◌∷◌, ◌++◌, Option, Some, None, IfSome}
use Rattle.hb_base.specs.declared.door.Door.{Door}
use Rattle.hb_base.specs.declared.door.Door.TheVariants as door
use Rattle.hb_base.specs.declared.door.Why.{Why}
use Rattle.hb_base.specs.declared.door.Why.TheVariants as whys
use Rattle.hb_captured.specs.Part as captured
use Rattle.hb_gateway.specs.Part as gateway
use Rattle.hb_inbound.specs.Part as part
use Rattle.hb_inbound.specs.Part.{Part}
use Rattle.hb_model.specs.Point as point
use Rattle.hb_world.specs.Trace as world
use Rattle.hb_world.specs.Trace.{births}
use Rattle.hb_world.specs.declared.entry.Entry.{Entry}
use Rattle.hb_world.specs.declared.entry.Entry.TheVariants as e
use Rattle.hb_world.specs.declared.entry.Way.{Way}
use Rattle.hb_world.specs.declared.entry.Way.TheVariants as way
use Rattle.hb_proxy.specs.Points.{Point, of_control, of_link, of_plain, of_gate, of_stream, entries}

pub data Owner : Type 0 where
  nobody : Owner
  -- a link to the control plane
  control_plane : Owner
  -- a link that was accepted at the inbound door
  inbound_link : Owner
  -- the upstream of the tunnel on a stream of an inbound link
  upstream_of : (link stream : ℕ) → Owner
  -- a plain link: one that was accepted at the plain door, or at the outbound one
  plain_link : Owner
  -- the upstream of a plain link
  relay_of : (link : ℕ) → Owner
  -- a link to a gateway
  gateway_link : Owner

abbrev pub at_door : Door → Owner
at_door door.Inbound = inbound_link
at_door door.Plain = plain_link
at_door door.Outbound = plain_link

abbrev pub dialled_for : Why → Owner
dialled_for whys.Discovery = control_plane
dialled_for (whys.Upstream link stream) = upstream_of link stream
dialled_for (whys.Plain link) = relay_of link
dialled_for (whys.Direct link) = relay_of link
dialled_for (whys.Gateway link) = gateway_link

abbrev pub owner_by : ℕ → Owner → Entry → Owner
owner_by n owner (e.Accepted l d) = if l == n then at_door d else owner
owner_by n owner (e.Dialled l to why) = if l == n then dialled_for why else owner
owner_by n owner _ = owner

-- whose the link of this number is, behind a trace
abbrev pub owner : ℕ → List Entry → Owner
owner n trace = fold (owner_by n) nobody trace

-- the link that an entry stands on, births aside
abbrev pub on_way : Way → Option ℕ
on_way (way.Finish l) = Some l
on_way (way.Read l) = Some l
on_way (way.Write l) = Some l
on_way _ = None

abbrev pub link_of : Entry → Option ℕ
link_of (e.Opened l) = Some l
link_of (e.Came l bytes) = Some l
link_of (e.Ended l) = Some l
link_of (e.Broke l) = Some l
link_of (e.Went l bytes) = Some l
link_of (e.Balked w) = on_way w
link_of (e.Shut l) = Some l
link_of (e.Closed l cause) = Some l
link_of _ = None

-- an entry stands on a link of this owner
abbrev pub StandsOn : List Entry → Owner → Entry → Type 0
StandsOn before whose entry = IfSome (link_of entry) (λ l. owner l before ≡ whose)

-- and on this link, which is this owner's
abbrev pub StandsAs : List Entry → ℕ → Owner → Entry → Type 0
StandsAs before link whose entry = IfSome (link_of entry) (λ l. (l ≡ link) × (owner l before ≡ whose))

abbrev pub StandsAt : List Entry → ℕ → Entry → Type 0
StandsAt before link entry = StandsAs before link inbound_link entry

abbrev pub PartStands : List Entry → ℕ → Part → Type 0
PartStands before l (part.entry e) = StandsAt before l e
PartStands before l (part.up s e) = StandsOn before (upstream_of l s) e
PartStands before l _ = ⊤

abbrev pub PlainStands : List Entry → ℕ → captured.Part → Type 0
PlainStands before l (captured.entry e) = StandsAs before l plain_link e
PlainStands before l (captured.up e) = StandsOn before (relay_of l) e
PlainStands before l _ = ⊤

abbrev pub GateStands : List Entry → ℕ → gateway.Part → Type 0
GateStands before g (gateway.entry e) = StandsAs before g gateway_link e
GateStands before g (gateway.dialled e key) = StandsAs before g gateway_link e
GateStands before g _ = ⊤

abbrev pub ControlStands : List Entry → point.Point → Type 0
ControlStands before (point.entry e) = StandsOn before control_plane e
ControlStands before _ = ⊤

abbrev pub OwnAt : List Point → Point → Type 0
OwnAt before (of_control q) = ControlStands (entries before) q
OwnAt before (of_link l p) = PartStands (entries before) l p
OwnAt before (of_plain l p) = PlainStands (entries before) l p
OwnAt before (of_gate g p) = GateStands (entries before) g p
OwnAt before (of_stream l g s w) = ⊤

-- at each place of a run: what holds of the points before it and of the point there
abbrev pub AtEach : (List Point → Point → Type 0) → List Point → Type 0
AtEach P points = (before : List Point) (p : Point) (behind : List Point) → points ≡ before ++ p ∷ behind → P before p

-- no part's entries stand on a link of another part
abbrev pub OwnLaw : List Point → Type 0
OwnLaw points = AtEach OwnAt points

-- links are numbered from 1 in the order of births
abbrev pub NumberMayStand : List Entry → Entry → Type 0
NumberMayStand before (e.Accepted l d) = l ≡ births before + 1
NumberMayStand before (e.Dialled l to why) = l ≡ births before + 1
NumberMayStand before _ = ⊤

abbrev pub NumberLaw : List Entry → Type 0
NumberLaw trace = world.AtEach NumberMayStand trace

-- no two upstreams are of one stream of one link, or of one plain link
pub record UpstreamLaw (trace : List Entry) : Type 0 where
  pub streams : (l s u v : ℕ) → owner u trace ≡ upstream_of l s → owner v trace ≡ upstream_of l s → u ≡ v
  pub relays : (l u v : ℕ) → owner u trace ≡ relay_of l → owner v trace ≡ relay_of l → u ≡ v
