use Rattle.std.specs.Prelude.{◌≡◌, ℕ, ◌≤◌, ◌<◌, ℤ, pos, ◌+ℤ◌, ◌≤ℤ◌, ◌<ℤ◌, Result, Ok, Err}
use Rattle.hb_windows.specs.declared.overrun.Overrun.{Overrun}
use Rattle.hb_frames.specs.Numbers.{largest}

module _ {S : Type 0} where
  -- a window that holds so much goes up by so much, and what was old is `next`; it is refused, and nothing changes,
  -- exactly where the sum exceeds the largest
  abbrev pub Rises : S → S → Result Unit Overrun → S → ℤ → ℤ → Type 0
  Rises old new (Ok _) next held by = ((held +ℤ by) ≤ℤ pos largest) × (new ≡ next)
  Rises old new (Err e) next held by =
      (pos largest <ℤ (held +ℤ by)) × (new ≡ old) × (e ≡ record { held = held; asked = by })

  -- n octets came, and what was old is `next`; they are refused, and nothing changes, exactly where they exceed what
  -- is granted
  abbrev pub Comes : S → S → Result Unit Overrun → S → ℕ → ℕ → Type 0
  Comes old new (Ok _) next granted n = (n ≤ granted) × (new ≡ next)
  Comes old new (Err e) next granted n =
      (granted < n) × (new ≡ old) × (e ≡ record { held = pos granted; asked = pos n })
