use Rattle.std.specs.Prelude.{◌≡◌, ℕ, ◌+◌, ◌-◌, ◌≤◌, ◌<◌, pos, Option, Some, None, Result, Ok, Err}
use Rattle.hb_windows.specs.declared.overrun.Overrun.{Overrun}

-- what the peer may still send, what came and isn't used up, and what is used up and not granted again
pub record Taking : Type 0 where
  pub granted : ℕ
  pub kept : ℕ
  pub owed : ℕ

-- n octets came; they are refused, and nothing changes, exactly where they exceed what is granted
abbrev pub Takes : Taking → Taking → Result Unit Overrun → ℕ → Type 0
Takes old new (Ok _) n =
    (n ≤ old.granted) × (new ≡ record old { granted = old.granted - n; kept = old.kept + n })
Takes old new (Err e) n =
    (old.granted < n) × (new ≡ old) × (e ≡ record { held = pos old.granted; asked = pos n })

-- all that is owed is granted again, exactly where it is 32,768 octets or more
abbrev pub PaysBack : Taking → Taking → Option ℕ → Type 0
PaysBack old new None = (old.owed < 32768) × (new ≡ old)
PaysBack old new (Some n) =
    (32768 ≤ old.owed) × (n ≡ old.owed) × (new ≡ record old { granted = old.granted + n; owed = 0 })
