-- Which tunnel an upstream is of.
use Rattle.std.specs.Prelude.{ℕ}
use Rattle.hb_links.specs.declared.place.Place.{Place}

-- the tunnel on a stream of a link
abbrev pub place : (l s : ℕ) → Place
place l s = record { link = l; stream = s }
