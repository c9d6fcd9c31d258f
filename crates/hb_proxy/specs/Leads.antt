-- What a link does by itself, and an entry of it, in the whole: whoever follows one link's machine has a run of the whole.
use Rattle.std.specs.Prelude.{⊤, ◌≡◌, ◌≢◌, ℕ, List, [], ◌∷◌, ◌++◌, map}
use Rattle.hb_captured.specs.Part as captured_part
use Rattle.hb_captured.specs.Runs as captured
use Rattle.hb_inbound.specs.Part as part
use Rattle.hb_inbound.specs.Part.{Part}
use Rattle.hb_inbound.specs.Runs.{Local}
use Rattle.hb_inbound.specs.Runs as inbound
use Rattle.hb_model.specs.declared.config.NodeConfig.{NodeConfig}
use Rattle.hb_proxy.specs.Machine.{Machine, local, plain_local, with_plain}
use Rattle.hb_proxy.specs.Points.{Point, of_link, of_plain}
use Rattle.hb_proxy.specs.Runs.{LinkGuard, PlainGuard, StandsFor}

-- a part that is no entry, nor what others do to the link, nor one that goes by how many there are
abbrev pub IsInner : Part → Type 0
IsInner (part.entry e) = ⊥
IsInner (part.up s e) = ⊥
IsInner part.welcomed = ⊥
IsInner part.crowded = ⊥
IsInner (part.decided s full answer) = ⊥
IsInner (part.applied r) = ⊥
IsInner (part.stopped cause) = ⊥
IsInner _ = ⊤

-- such parts lead from one link to another
abbrev pub Leads : (l : ℕ) → Local → List Part → Local → Type 0
Leads l a [] b = b ≡ a
Leads l a (p ∷ parts) b = IsInner p × (mid : Local) × inbound.Steps l a p mid × Leads l mid parts b

-- the run goes on by these parts of a link, to where that is this, and no other part changes
pub record GoesOn (g : NodeConfig) (x : Machine) (points : List Point) (l : ℕ) (parts : List Part) (b : Local) : Type 0 where
  pub y : Machine
  pub stands : StandsFor g y (points ++ map (of_link l) parts)
  pub reached : local y l ≡ b
  pub others : (k : ℕ) → k ≢ l → y.inbound k ≡ x.inbound k
  pub control : y.control ≡ x.control
  pub plain : y.plain ≡ x.plain
  pub gates : y.gates ≡ x.gates

-- what follows by itself on a link follows in the whole
abbrev pub LinksLead : Type 0
LinksLead = (g : NodeConfig) (x : Machine) (points : List Point) (l : ℕ) (parts : List Part) (b : Local)
    → StandsFor g x points → Leads l (local x l) parts b → GoesOn g x points l parts b

-- and a part that isn't what others do, where the whole lets it
abbrev pub LinksStep : Type 0
LinksStep = (g : NodeConfig) (x : Machine) (points : List Point) (l : ℕ) (p : Part) (b : Local)
    → StandsFor g x points → LinkGuard g x l p → inbound.Steps l (local x l) p b → GoesOn g x points l (p ∷ []) b

-- PLAIN LINKS

abbrev pub IsPlainInner : captured_part.Part → Type 0
IsPlainInner (captured_part.entry e) = ⊥
IsPlainInner (captured_part.up e) = ⊥
IsPlainInner (captured_part.asked gate stream) = ⊥
IsPlainInner (captured_part.hears heard begun) = ⊥
IsPlainInner (captured_part.put bytes) = ⊥
IsPlainInner captured_part.finished = ⊥
IsPlainInner (captured_part.credited n) = ⊥
IsPlainInner (captured_part.loosed begun) = ⊥
IsPlainInner (captured_part.completed begun note) = ⊥
IsPlainInner (captured_part.applied r) = ⊥
IsPlainInner (captured_part.stopped cause) = ⊥
IsPlainInner _ = ⊤

-- such parts lead from one machine to another, where the whole lets them
abbrev pub PlainLeads : NodeConfig → (l : ℕ) → Machine → List captured_part.Part → Machine → Type 0
PlainLeads g l x [] y = y ≡ x
PlainLeads g l x (p ∷ parts) y =
    IsPlainInner p × captured.MayGo l (plain_local x l) p × PlainGuard g x l p
    × PlainLeads g l (with_plain l p (captured.next_link (x.plain l) p) x) parts y

-- the run goes on by them to that machine, and no other part changes
pub record PlainGoesOn (g : NodeConfig) (x : Machine) (points : List Point) (l : ℕ) (parts : List captured_part.Part) (y : Machine)
    : Type 0 where
  pub stands : StandsFor g y (points ++ map (of_plain l) parts)
  pub others : (k : ℕ) → k ≢ l → y.plain k ≡ x.plain k
  pub control : y.control ≡ x.control
  pub inbound : y.inbound ≡ x.inbound
  pub gates : y.gates ≡ x.gates

abbrev pub PlainLinksLead : Type 0
PlainLinksLead = (g : NodeConfig) (x y : Machine) (points : List Point) (l : ℕ) (parts : List captured_part.Part)
    → StandsFor g x points → PlainLeads g l x parts y → PlainGoesOn g x points l parts y

abbrev pub PlainLinksStep : Type 0
PlainLinksStep = (g : NodeConfig) (x : Machine) (points : List Point) (l : ℕ) (p : captured_part.Part)
    → StandsFor g x points → PlainGuard g x l p → captured.MayGo l (plain_local x l) p
    → PlainGoesOn g x points l (p ∷ []) (with_plain l p (captured.next_link (x.plain l) p) x)
