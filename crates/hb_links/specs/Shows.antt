-- Which inbound links of the machine the links of the code show.
use Rattle.std.specs.Prelude.{⊤, ◌≡◌, ℕ, ◌<◌, ◌^◌, false, Option, Some, None, IsSome}
use Rattle.std.specs.FinMap.{FinMap, get}
use Rattle.std.specs.Ordering.{nat_cmp}
use Rattle.hb_inbound.specs.Inbound.{Inbound, Phase, unborn, closed}
use Rattle.hb_link.specs.Acts.{NoneIsDue}
use Rattle.hb_link.specs.Shows.{Shows}
use Rattle.hb_link.specs.Tunnels.{ShowsTunnel}
use Rattle.hb_link.specs.declared.link.Link.{Link}
use Rattle.hb_proxy.specs.Ups.{Joins}
use Rattle.hb_links.specs.declared.links.Links.{Links}
use Rattle.hb_links.specs.declared.place.Place.{Place}
use Rattle.hb_links.specs.Busy.{may_be_due}
use Rattle.hb_links.specs.Places.{place}

-- it isn't there
abbrev pub IsAway : Phase → Type 0
IsAway unborn = ⊤
IsAway closed = ⊤
IsAway _ = ⊥

-- where the code has none of this number the link isn't there, and no tunnel has an upstream
abbrev pub ShowsLink : ℕ → Option Link → Inbound → Type 0
ShowsLink l None x = IsAway x.phase × ((s : ℕ) → ShowsTunnel None (x.tunnels s))
ShowsLink l (Some k) x = (k.number ≡ l) × Shows k x

-- each upstream is found, and what is found is one
pub record IsIndex (ups : FinMap nat_cmp Place) (f : ℕ → Inbound) : Type 0 where
  pub found : (l s u : ℕ) → Joins ((f l).tunnels s) u → get ups u ≡ Some (place l s)
  pub joined : (u : ℕ) (at : Place) → get ups u ≡ Some at → Joins ((f at.link).tunnels at.stream) u

pub record ShowsAll (k : Links) (f : ℕ → Inbound) : Type 0 where
  pub links : (l : ℕ) → ShowsLink l (get k.links l) (f l)
  pub index : IsIndex k.ups f
  -- the numbers of links have 64 bits
  pub numbered : (l : ℕ) → IsSome (get k.links l) → l < 2 ^ 64
  -- and none of them is away
  pub kept : (l : ℕ) → IsSome (get k.links l) → IsAway (f l).phase → ⊥
  -- no other link has an act due
  pub idle : (l : ℕ) → may_be_due k l ≡ false → NoneIsDue (f l)
