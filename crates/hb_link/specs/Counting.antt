-- When all places of tunnels are taken for a request.
use Rattle.std.specs.Prelude.{⊤, ◌≡◌, ℕ, ◌+◌, nat_le, Bool, Option, Some, None}
use Rattle.hb_inbound.specs.Part.{welcomed, decided}
use Rattle.hb_inbound.specs.Runs.{Local}
use Rattle.hb_link.specs.Load.{HasLoad}
use Rattle.hb_link.specs.Reaches.{Guard}

-- how many places the tunnels of other links take, and how many those of all links may
pub record Places : Type 0 where
  pub others : ℕ
  pub limit : ℕ

-- A request finds all places taken where the tunnels of other links, and those of this one then, are as many as there may be. Where
-- nothing is known of places none is answered
abbrev pub Finds : Option Places → Local → Bool → Type 0
Finds None a full = ⊥
Finds (Some p) a full = (n : ℕ) × HasLoad a.link n × (full ≡ nat_le p.limit (p.others + n))

-- and the link isn't taken in, which was born before
abbrev pub Counts : Option Places → Guard
Counts places a welcomed = ⊥
Counts places a (decided s full answer) = Finds places a full
Counts places a p = ⊤

abbrev pub places : (others limit : ℕ) → Option Places
places others limit = Some (record { others = others; limit = limit })

abbrev pub CountsPlaces : (others limit : ℕ) → Guard
CountsPlaces others limit = Counts (places others limit)

-- neither is the link taken in, nor a request answered
abbrev pub uncounted : Guard
uncounted = Counts None

-- the link may be taken in, and no request is answered
abbrev pub taking_in : Guard
taking_in a (decided s full answer) = ⊥
taking_in a p = ⊤
