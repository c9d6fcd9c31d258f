-- How many tunnels of a link take a place.
use Rattle.std.specs.Prelude.{◌≡◌, ℕ, zero, suc, ◌+◌, ◌<◌, ◌^◌, true, if◌then◌else◌}
use Rattle.std.specs.FinMap.{FinMap, get}
use Rattle.std.specs.Ordering.{nat_cmp}
use Rattle.hb_inbound.specs.Inbound.{Inbound}
use Rattle.hb_inbound.specs.Tunnel.{takes_place}
use Rattle.hb_link.specs.declared.link.Link.{Link}
use Rattle.hb_link.specs.declared.tunnel.Tunnel.{Tunnel}
use Rattle.hb_link.specs.Tunnels.{has_place}

-- THE MACHINE'S

-- on the streams below a number
abbrev pub load_below : ℕ → Inbound → ℕ
load_below zero x = 0
load_below (suc n) x = load_below n x + (if takes_place (x.tunnels n).stage then 1 else 0)

-- on all streams
pub record HasLoad (x : Inbound) (n : ℕ) : Type 0 where
  pub bound : ℕ
  pub below : (s : ℕ) → takes_place (x.tunnels s).stage ≡ true → s < bound
  pub count : load_below bound x ≡ n

-- THE CODE'S

-- on the streams below a number
abbrev pub places_below : ℕ → FinMap nat_cmp Tunnel → ℕ
places_below zero tunnels = 0
places_below (suc n) tunnels = places_below n tunnels + (if has_place (get tunnels n) then 1 else 0)

-- on all streams, whose numbers have 32 bits
unfoldable pub places_on : Link → ℕ
places_on k = places_below (2 ^ 32) k.tunnels
