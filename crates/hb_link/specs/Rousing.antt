-- The upstreams of a link that are roused: of which more may be read, or is to be written, than when that was told last.
use Rattle.std.specs.Prelude.{◌≡◌, ◌⊎◌, ℕ, ◌<◌, ◌==◌, ◌||◌, Bool, true, false, nat_le, min, List, [], Option, Some, None}
use Rattle.std.specs.List.{list_any}
use Rattle.hb_link.specs.declared.link.Link.{Link}
use Rattle.hb_link.specs.declared.roused.Roused.{Roused}
use Rattle.hb_link.specs.Observed.{up_wants_on, up_held_on, up_on}

-- few streams, and all from a number on
abbrev pub is_few : List ℕ → ℕ → Bool
is_few few s = list_any (λ n. n == s) few

abbrev pub is_from : Option ℕ → ℕ → Bool
is_from None s = false
is_from (Some from) s = nat_le from s

abbrev pub is_roused : Roused → ℕ → Bool
is_roused r s = is_few r.few.items s || is_from r.from s

abbrev pub least : Option ℕ → ℕ → ℕ
least None s = s
least (Some n) s = min n s

-- one stream more, at least
pub record Adds (s : ℕ) (old new : Roused) : Type 0 where
  pub here : is_roused new s ≡ true
  pub kept : (j : ℕ) → is_roused old j ≡ true → is_roused new j ≡ true

-- so it is where there is some of so many
pub record AddsSome (n s : ℕ) (old new : Roused) : Type 0 where
  pub here : 0 < n → is_roused new s ≡ true
  pub kept : (j : ℕ) → is_roused old j ≡ true → is_roused new j ≡ true

-- THE UPSTREAMS OF A LINK

-- that of the tunnel on a stream is roused
abbrev pub roused_on : Link → ℕ → Bool
roused_on k s = is_roused k.roused s

-- One that was roused still is. One of which something may be read, or is to be written, and nothing was before, is roused
pub record RousesAt (s : ℕ) (old new : Link) : Type 0 where
  pub kept : roused_on old s ≡ true → roused_on new s ≡ true
  pub reads : up_wants_on old s ≡ 0 → (up_wants_on new s ≡ 0) ⊎ (roused_on new s ≡ true)
  pub writes : up_held_on old s ≡ [] → (up_held_on new s ≡ []) ⊎ (roused_on new s ≡ true)

abbrev pub Rouses : Link → Link → Type 0
Rouses old new = (s : ℕ) → RousesAt s old new

-- THEY ARE TOLD

-- One that was roused still is, or was told. Nothing else changes
pub record Passes (told : Option ℕ) (old new : Link) : Type 0 where
  pub same : new ≡ record old { roused = new.roused }
  pub kept : (s : ℕ) → 0 < up_on old s → roused_on old s ≡ true → (roused_on new s ≡ true) ⊎ (told ≡ Some (up_on old s))

-- and where none was told none is roused any more
pub record Tells (told : Option ℕ) (old new : Link) : Type 0 where
  pub passes : Passes told old new
  pub none : told ≡ None → (s : ℕ) → roused_on new s ≡ false
