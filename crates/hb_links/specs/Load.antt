-- How many tunnels of all links take a place.
use Rattle.std.specs.Prelude.{◌≡◌, ℕ, zero, suc, ◌+◌, ◌-◌, ◌^◌, min, Option, Some, None}
use Rattle.std.specs.FinMap.{FinMap, get}
use Rattle.std.specs.Ordering.{nat_cmp}
use Rattle.hb_link.specs.Load.{places_on}
use Rattle.hb_link.specs.declared.link.Link.{Link}
use Rattle.hb_model.specs.declared.config.NodeConfig.{NodeConfig}
use Rattle.hb_proxy.specs.Load.{most_tunnels, plain_below, CountsTo}
use Rattle.hb_proxy.specs.Machine.{Machine}
use Rattle.hb_links.specs.declared.links.Links.{Links}

-- of a link
abbrev pub places_in : Option Link → ℕ
places_in None = 0
places_in (Some k) = places_on k

-- of the links below a number
abbrev pub total_below : ℕ → FinMap nat_cmp Link → ℕ
total_below zero links = 0
total_below (suc n) links = total_below n links + places_in (get links n)

-- of all links, whose numbers have 64 bits
unfoldable pub total : FinMap nat_cmp Link → ℕ
total links = total_below (2 ^ 64) links

-- the places of one link became others; no count is as great as 2^128
abbrev pub recount : (taken before behind : ℕ) → ℕ
recount taken before behind = min (taken - before + behind) (2 ^ 128 - 1)

-- all are counted
abbrev pub IsCounted : Links → Type 0
IsCounted k = k.taken ≡ total k.links

-- and still are
abbrev pub Recounts : Links → Links → Type 0
Recounts old new = IsCounted old → IsCounted new

-- the tunnels for which this limit leaves places, and the plain links, are as many as there may be
abbrev pub LeavesPlaces : (limit : ℕ) → NodeConfig → Machine → Type 0
LeavesPlaces limit g x = (plain : ℕ) × CountsTo (plain_below x) plain × (plain + limit ≡ most_tunnels g)

-- those of other links than the one of a number
abbrev pub others_of : Links → ℕ → ℕ
others_of k n = k.taken - places_in (get k.links n)
