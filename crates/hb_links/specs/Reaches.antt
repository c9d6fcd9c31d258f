-- What a call of the code is to the machine of the whole.
use Rattle.std.specs.Prelude.{⊤, ◌≡◌, List, [], ◌∷◌}
use Rattle.hb_link.specs.Counting as counting
use Rattle.hb_link.specs.Noted.{Told, Takes}
use Rattle.hb_link.specs.Reaches as link
use Rattle.hb_model.specs.declared.config.NodeConfig.{NodeConfig}
use Rattle.hb_proxy.specs.Machine.{Machine, local}
use Rattle.hb_proxy.specs.Notes.{notes}
use Rattle.hb_proxy.specs.Points.{Point, of_control, of_link, of_plain, of_gate, of_stream}
use Rattle.hb_proxy.specs.Runs.{Steps, StandsFor}
use Rattle.hb_links.specs.declared.links.Links.{Links}
use Rattle.hb_links.specs.Shows.{ShowsAll}

-- a point that follows by itself on a link
abbrev pub IsInner : Point → Type 0
IsInner (of_control q) = ⊥
IsInner (of_link l p) = link.IsInner p
IsInner (of_plain l p) = ⊥
IsInner (of_gate n p) = ⊥
IsInner (of_stream l n s w) = ⊥

-- of which more may be said, by the machine in front of it; also of the link's alone
abbrev pub Guard : Type 1
Guard = Machine → Point → Type 0

abbrev pub on_links : link.Guard → Guard
on_links G x (of_control q) = ⊤
on_links G x (of_link l p) = G (local x l) p
on_links G x (of_plain l p) = ⊤
on_links G x (of_gate n p) = ⊤
on_links G x (of_stream l n s w) = ⊤

-- no link is taken in, and no request is answered
abbrev pub uncounted : Guard
uncounted = on_links counting.uncounted

-- such points lead from one machine to another, one after another
abbrev pub Leads : Guard → NodeConfig → Machine → List Point → Machine → Type 0
Leads G g x [] y = y ≡ x
Leads G g x (p ∷ more) y = IsInner p × G x p × (mid : Machine) × Steps g x p mid × Leads G g mid more y

-- They lead to a machine of which this holds, and their notes are taken in order, or one is lost
pub record Follows (G : Guard) (Q : Links → Machine → Type 0) (g : NodeConfig) (x : Machine) (k : Links) (told now : Told)
    : Type 0 where
  pub more : List Point
  pub reached : Machine
  pub leads : Leads G g x more reached
  pub shows : Q k reached
  pub noted : Takes told (notes more) now

-- to one whose inbound links the code shows
abbrev pub Shown : Links → Machine → Type 0
Shown k x = ShowsAll k x.inbound

-- The code is told a point. For each run of the whole whose links it showed, and behind which the point may come, it shows afterwards
-- those of the run with that point, and with what follows from it by itself
abbrev pub Meets : Guard → (NodeConfig → Machine → Type 0) → Point → Links → Told → Links → Told → Type 0
Meets G P p old told new now =
    (g : NodeConfig) (x y : Machine) (points : List Point) → StandsFor g x points → ShowsAll old x.inbound → P g x → Steps g x p y
    → Follows G Shown g y new told now
