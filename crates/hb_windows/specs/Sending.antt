use Rattle.std.specs.Prelude.{◌≡◌, ℕ, ℤ, pos, ◌+ℤ◌, ◌≤ℤ◌, ◌<ℤ◌, Result, Ok, Err}
use Rattle.hb_frames.specs.Numbers.{largest}
use Rattle.hb_windows.specs.declared.overrun.Overrun.{Overrun}

-- what may still be sent, and the initial size that it counts from (RFC 9113 section 6.9.2)
pub record Sending : Type 0 where
  pub held : ℤ
  pub size : ℕ

-- the window moves by `by`, and counts from `size`; it is refused, and nothing moves, exactly where the
-- sum exceeds the largest
abbrev pub Moves : Sending → Sending → Result Unit Overrun → ℤ → ℕ → Type 0
Moves old new (Ok _) by size =
    ((old.held +ℤ by) ≤ℤ pos largest) × (new ≡ record { held = old.held +ℤ by; size = size })
Moves old new (Err e) by size =
    (pos largest <ℤ (old.held +ℤ by)) × (new ≡ old) × (e ≡ record { held = old.held; asked = by })
