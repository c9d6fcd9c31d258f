-- Links that code may not show, and a call that isn't what it says.
use Rattle.std.specs.Prelude.{◌≡◌, ◌≢◌, ℕ, ◌<◌, false, List, Some, None}
use Rattle.std.specs.FinMap.{get}
use Rattle.hb_base.specs.declared.door.Door.TheVariants as door
use Rattle.hb_inbound.specs.Inbound.{Inbound, serving, closed}
use Rattle.hb_inbound.specs.Part as part
use Rattle.hb_inbound.specs.Tunnel as t
use Rattle.hb_link.specs.declared.link.Link.{Link}
use Rattle.hb_model.specs.declared.config.NodeConfig.{NodeConfig}
use Rattle.hb_proxy.specs.Load.{most_tunnels, plain_below, CountsTo, LinksFull}
use Rattle.hb_proxy.specs.Machine.{Machine}
use Rattle.hb_proxy.specs.Points.{Point, of_link}
use Rattle.hb_proxy.specs.Runs.{Steps, StandsFor}
use Rattle.hb_world.specs.declared.entry.Entry.TheVariants as e
use Rattle.hb_links.specs.declared.links.Links.{Links}
use Rattle.hb_links.specs.declared.place.Place.{Place}
use Rattle.hb_links.specs.Busy.{may_be_due}
use Rattle.hb_links.specs.Calls.{Begins}
use Rattle.hb_links.specs.Load.{LeavesPlaces}
use Rattle.hb_links.specs.Shows.{ShowsAll}

-- the upstream of a tunnel that lives isn't found, or one is that is closed
abbrev pub LacksUp : Type 0
LacksUp = (k : Links) (f : ℕ → Inbound) (l s : ℕ) → ((f l).tunnels s).stage ≡ t.live → 0 < ((f l).tunnels s).up
    → get k.ups ((f l).tunnels s).up ≡ None → ShowsAll k f → ⊥

abbrev pub FindsClosed : Type 0
FindsClosed = (k : Links) (f : ℕ → Inbound) (u : ℕ) (at : Place) → get k.ups u ≡ Some at
    → ((f at.link).tunnels at.stream).stage ≡ t.gone → ShowsAll k f → ⊥

-- a link that serves isn't kept, or one is kept under the number of another
abbrev pub LacksLink : Type 0
LacksLink = (k : Links) (f : ℕ → Inbound) (l : ℕ) → (f l).phase ≡ serving → get k.links l ≡ None → ShowsAll k f → ⊥

abbrev pub KeepsUnderAnother : Type 0
KeepsUnderAnother = (k : Links) (f : ℕ → Inbound) (l : ℕ) (w : Link) → get k.links l ≡ Some w → w.number ≢ l → ShowsAll k f → ⊥

-- a link that is closed is kept
abbrev pub KeepsClosed : Type 0
KeepsClosed = (k : Links) (f : ℕ → Inbound) (l : ℕ) (w : Link) → get k.links l ≡ Some w → (f l).phase ≡ closed → ShowsAll k f → ⊥

-- a dial is due of a link that isn't among those that may have an act due
abbrev pub MissesDial : Type 0
MissesDial = (k : Links) (f : ℕ → Inbound) (l s : ℕ) → ((f l).tunnels s).stage ≡ t.due → may_be_due k l ≡ false → ShowsAll k f → ⊥

-- a link was accepted where one more may be, and nothing changed
abbrev pub ForgetsLink : Type 0
ForgetsLink = (g : NodeConfig) (x y : Machine) (points : List Point) (k : Links) (n : ℕ) → StandsFor g x points → ShowsAll k x.inbound
    → LinksFull false g x → Steps g x (of_link n (part.entry (e.Accepted n door.Inbound))) y → Begins n k k → ⊥

-- where a plain link takes one place of two both are left; and one is
abbrev pub LeavesBoth : Type 0
LeavesBoth = (g : NodeConfig) (x : Machine) → most_tunnels g ≡ 2 → CountsTo (plain_below x) 1 → LeavesPlaces 2 g x → ⊥

abbrev pub LeavesOne : Type 0
LeavesOne = (g : NodeConfig) (x : Machine) → most_tunnels g ≡ 2 → CountsTo (plain_below x) 1 → LeavesPlaces 1 g x
