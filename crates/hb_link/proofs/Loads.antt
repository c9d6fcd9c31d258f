-- How many tunnels take a place, and how far a walk over the streams is.
use Rattle.std.proofs.Common.{◌≡◌, ℕ, zero, suc, ◌-◌, ◌<◌, ◌≤◌, ◌^◌, Bool, true, false, if◌then◌else◌, Option, Some, None, IsSome, refl, ap, sym, ◌∙◌, arith}
use Rattle.std.proofs.lemmas.Bool.{false≢true}
use Rattle.std.specs.FinMap.{get}
use Rattle.hb_counted.specs.Classes.{how_many_below, how_many}
use Rattle.hb_counted.proofs.Keeping.{all_numbers}
use Rattle.hb_map.specs.Keyed.{IsFirstFrom}
use Rattle.hb_inbound.specs.Inbound.{Inbound}
use Rattle.hb_link.specs.declared.link.Link.{Link}
use Rattle.hb_link.specs.declared.tunnel.Tunnel.{Tunnel}
use Rattle.hb_link.specs.Load.{load_below, HasLoad, places_below, places_on}
use Rattle.hb_link.specs.Shows.{ShowsTunnels}
use Rattle.hb_link.specs.Tunnels.{has_place}
use Rattle.hb_link.proofs.Classed.{class_at, place_class}
use Rattle.hb_link.proofs.Moving.{Map}
use Rattle.hb_link.proofs.Shown.{place_tunnel}

-- one place, or none
abbrev pub one_if : Bool → ℕ
one_if b = if b then 1 else 0

-- where the walk stands: behind all streams at its end
abbrev pub place_of : Option ℕ → ℕ
place_of None = 2 ^ 32
place_of (Some stream) = stream

-- how many numbers of streams there are from this one on
abbrev pub left_from : Option ℕ → ℕ
left_from None = 0
left_from (Some first) = 2 ^ 32 - first

-- between two places of a walk there is none
pub none_between : (tunnels : Map) (from : ℕ) (next : Option ℕ) → IsFirstFrom tunnels from next → (s : ℕ) → from ≤ s → s < place_of next
    → get tunnels s ≡ None
none_between tunnels from None none s behind less = none s behind
none_between tunnels from (Some stream) is s behind less = is.2 s behind less

module _ (tunnels : Map) where
  one_at_most : (b : Bool) → one_if b ≤ 1
  one_at_most true = omega arith
  one_at_most false = omega arith

  pub few : (n : ℕ) → places_below n tunnels ≤ n
  few zero = omega arith
  few (suc n) = let front = few n in let here = one_at_most (has_place (get tunnels n)) in omega (arith, front, here)

  counted_below : (n : ℕ) → how_many_below (λ s. (class_at tunnels s).place) n ≡ places_below n tunnels
  counted_below zero = refl
  counted_below (suc n) =
      let here = ap one_if (place_class (get tunnels n)) in
      let front = counted_below n in omega (arith, here, front)

  -- those that are counted take a place
  pub counted_places : how_many (λ s. (class_at tunnels s).place) ≡ places_below (2 ^ 32) tunnels
  counted_places = all_numbers (λ s. (class_at tunnels s).place) ∙ counted_below (2 ^ 32)

module _ (k : Link) (x : Inbound) (shows : ShowsTunnels k x) where
  same_below : (n : ℕ) → load_below n x ≡ places_below n k.tunnels
  same_below zero = refl
  same_below (suc n) =
      let here = ap one_if (place_tunnel (get k.tunnels n) (x.tunnels n) (shows n)) in
      let front = same_below n in omega (arith, here, front)

  some_place : (o : Option Tunnel) → has_place o ≡ true → IsSome o
  some_place None has = absurd (false≢true has)
  some_place (Some k) has = refl

  pub has_load : (n : ℕ) → ((q : ℕ) → IsSome (get k.tunnels q) → q < 2 ^ 32) → n ≡ places_below (2 ^ 32) k.tunnels → HasLoad x n
  has_load n narrow is = record {
    bound = 2 ^ 32;
    below = λ s has. narrow s (some_place (get k.tunnels s) (place_tunnel (get k.tunnels s) (x.tunnels s) (shows s) ∙ has));
    count = same_below (2 ^ 32) ∙ sym is;
  }

-- so many are on the link
pub all_places : (k : Link) (n : ℕ) → n ≡ places_below (2 ^ 32) k.tunnels → n ≡ places_on k
unfolding places_on
all_places k n is = is
