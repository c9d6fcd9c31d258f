-- Small traces of the links to the control plane that no run leaves.
use Rattle.std.specs.Prelude.{◌≡◌, ℕ, List, [], ◌∷◌, ◌++◌}
use Rattle.hb_base.specs.declared.cause.Cause.TheVariants as cause
use Rattle.hb_base.specs.declared.door.Why.TheVariants as whys
use Rattle.hb_base.specs.declared.target.Target.{Target}
use Rattle.hb_disco.specs.declared.response.Response.{Response}
use Rattle.hb_history.specs.Points.{frames_got}
use Rattle.hb_model.specs.Point as point
use Rattle.hb_model.specs.Point.{moves}
use Rattle.hb_model.specs.declared.config.NodeConfig.{NodeConfig}
use Rattle.hb_proxy.specs.Points.{Point, of_control, control_of}
use Rattle.hb_world.specs.declared.entry.Entry.{Entry}
use Rattle.hb_world.specs.declared.entry.Entry.TheVariants as e
use Rattle.hb_world.specs.declared.entry.Way.{Way}
use Rattle.hb_world.specs.declared.entry.Way.TheVariants as way
use Rattle.hb_world.specs.declared.entry.Woken.TheVariants as woken
use Rattle.hb_laws.specs.Lawful.{Lawful}

-- entries of these traces: link 1 to the control plane is dialled, and opened; a dial of it fails
abbrev pub dials : NodeConfig → Entry
dials g = e.Dialled 1 g.discovery whys.Discovery

abbrev pub fails : NodeConfig → Entry
fails g = e.DialFailed g.discovery whys.Discovery

abbrev pub opens : Entry
opens = e.Opened 1

-- a wait that finds nothing ready, and one behind which time passed
abbrev pub waits : Entry
waits = e.Wait [] woken.Woke

abbrev pub waits_tick : Entry
waits_tick = e.Wait [] woken.Tick

-- a call that moves nothing
abbrev pub balks : Way → Entry
balks w = e.Balked w

abbrev pub Refused : (NodeConfig → List Entry) → Type 0
Refused trace = (g : NodeConfig) → Lawful g (trace g) → ⊥

-- DIALS

-- none: at the start, behind a tick; one beside a link that lives; one of another target
abbrev pub NeverDials : Type 0
NeverDials = Refused (λ g. waits ∷ [])

abbrev pub DialsNoMore : Type 0
DialsNoMore = Refused (λ g. fails g ∷ waits_tick ∷ e.Tick ∷ waits ∷ [])

abbrev pub DialsTwice : Type 0
DialsTwice = Refused (λ g. dials g ∷ e.Dialled 2 g.discovery whys.Discovery ∷ [])

abbrev pub DialsAnother : Type 0
DialsAnother = (g : NodeConfig) (to : Target) → (to ≡ g.discovery → ⊥) → Lawful g (e.Dialled 1 to whys.Discovery ∷ []) → ⊥

-- CLOSES

-- a healthy link is closed, as one that broke, and for a cause that no link to the control plane has; and the run goes on
abbrev pub ClosesHealthy : Type 0
ClosesHealthy = Refused (λ g. dials g ∷ opens ∷ e.Closed 1 cause.Broken ∷ waits ∷ [])

abbrev pub ClosesForAnother : Type 0
ClosesForAnother = Refused (λ g. dials g ∷ opens ∷ e.Closed 1 cause.Revoked ∷ waits ∷ [])

-- one that broke is closed as if memory lacked
abbrev pub ClosesForSecond : Type 0
ClosesForSecond = Refused (λ g. dials g ∷ e.Broke 1 ∷ e.Closed 1 cause.NoMemory ∷ waits ∷ [])

-- a link whose peer ended, and one that broke, are kept
abbrev pub KeepsEnded : Type 0
KeepsEnded = Refused (λ g. dials g ∷ opens ∷ e.Ended 1 ∷ waits ∷ [])

abbrev pub KeepsBroken : Type 0
KeepsBroken = Refused (λ g. dials g ∷ e.Broke 1 ∷ waits ∷ [])

-- WHAT COMES

-- nothing is looked at: SETTINGS came, without a setting, and the proxy waits
abbrev pub settings_octets : List ℕ
settings_octets = 0 ∷ 0 ∷ 0 ∷ 4 ∷ 0 ∷ 0 ∷ 0 ∷ 0 ∷ 0 ∷ []

abbrev pub LooksAtNothing : Type 0
LooksAtNothing =
    (g : NodeConfig) → (h : Lawful g (dials g ∷ opens ∷ e.Came 1 settings_octets ∷ waits ∷ []))
    → frames_got (moves 1 (control_of h.points)) ≡ [] → ⊥

-- a response is applied though none came: of a link that was never born
abbrev pub AppliesForged : Type 0
AppliesForged =
    (g : NodeConfig) (l : ℕ) (r : Response) (before behind : List Point) → (h : Lawful g (fails g ∷ waits ∷ []))
    → h.points ≡ before ++ of_control (point.applied l r) ∷ behind → ⊥

-- CALLS

-- calls where none may be made: a read before a link is open, behind its end and behind its close, a write before it is open, a finish of
-- one that is open; none of them moves anything
abbrev pub ReadsUnopened : Type 0
ReadsUnopened = Refused (λ g. dials g ∷ balks (way.Read 1) ∷ [])

abbrev pub ReadsBehindEnd : Type 0
ReadsBehindEnd = Refused (λ g. dials g ∷ opens ∷ e.Ended 1 ∷ balks (way.Read 1) ∷ [])

abbrev pub ReadsBehindClose : Type 0
ReadsBehindClose = Refused (λ g. dials g ∷ e.Broke 1 ∷ e.Closed 1 cause.Broken ∷ balks (way.Read 1) ∷ [])

abbrev pub WritesUnopened : Type 0
WritesUnopened = Refused (λ g. dials g ∷ balks (way.Write 1) ∷ [])

abbrev pub FinishesOpened : Type 0
FinishesOpened = Refused (λ g. dials g ∷ opens ∷ balks (way.Finish 1) ∷ [])
