-- What waits is a front of itself.
use Rattle.std.proofs.Common.{◌≡◌, ℕ, zero, suc, List, [], ◌∷◌, length, refl, sym, append-nil}
use Rattle.hb_tunnel.specs.Way.{IsFront}

none : (held : List ℕ) → length held ≡ 0 → held ≡ []
none [] is = refl
none (b ∷ held) is = absurd cc

pub whole : (held : List ℕ) → IsFront held held
whole held = record { rest = []; front = sym (append-nil held); some = none held }

-- so is a text that is what waits
pub is_whole : (part held : List ℕ) → part ≡ held → IsFront part held
is_whole part held is = rw is (whole held)
