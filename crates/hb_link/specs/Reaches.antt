-- What a call of the code is to the machine.
use Rattle.std.specs.Prelude.{⊤, ◌≡◌, ℕ, List, [], ◌∷◌}
use Rattle.hb_held.specs.Held.{Resources}
use Rattle.hb_inbound.specs.Inbound.{Inbound}
use Rattle.hb_inbound.specs.Part.{Part, entry, up, crowded, applied, stopped, notes}
use Rattle.hb_inbound.specs.Runs.{Local, Steps, StandsFor}
use Rattle.hb_link.specs.declared.link.Link.{Link}
use Rattle.hb_link.specs.Noted.{Told, Takes}
use Rattle.hb_link.specs.Shows.{Shows}

-- a part that follows by itself: neither an entry, nor what others do to the link
abbrev pub IsInner : Part → Type 0
IsInner (entry e) = ⊥
IsInner (up s e) = ⊥
IsInner crowded = ⊥
IsInner (applied r) = ⊥
IsInner (stopped cause) = ⊥
IsInner _ = ⊤

-- of which more may be said, by the link in front of it
abbrev pub Guard : Type 1
Guard = Local → Part → Type 0

abbrev pub unguarded : Guard
unguarded a p = ⊤

-- such parts lead from one link to another, one after another
abbrev pub Leads : Guard → ℕ → Local → List Part → Local → Type 0
Leads G l a [] b = b ≡ a
Leads G l a (p ∷ parts) b = IsInner p × G a p × (mid : Local) × Steps l a p mid × Leads G l mid parts b

-- They lead to a link of which this holds, and their notes are taken in order, or one is lost
pub record Follows (G : Guard) (Q : Link → Inbound → Type 0) (l : ℕ) (a : Local) (k : Link) (told now : Told) : Type 0 where
  pub parts : List Part
  pub reached : Local
  pub leads : Leads G l a parts reached
  pub shows : Q k reached.link
  pub noted : Takes told (notes parts) now

-- to a link that the code shows
abbrev pub Reaches : Guard → ℕ → Local → Link → Told → Told → Type 0
Reaches G l a k told now = Follows G Shows l a k told now

-- The code is told a part. For each run of the link that the code showed, and behind which the part may come, it shows afterwards the run
-- with that part, and with what follows from it by itself
abbrev pub Meets : Guard → (Local → Type 0) → Part → Link → Told → Link → Told → Type 0
Meets G P p old told new now =
    (start : Resources) (before : List Part) (a b : Local) → StandsFor old.number start a before → Shows old a.link → P a
    → Steps old.number a p b → (new.number ≡ old.number) × Reaches G old.number b new told now
