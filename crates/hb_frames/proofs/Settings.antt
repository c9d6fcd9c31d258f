-- The settings of a payload, one at a time.
use Rattle.std.proofs.Common.{◌≡◌, false, ℕ, ◌+◌, ◌*◌, ◌≤◌, ◌<◌, List, [], ◌∷◌, length, drop, refl, arith}
use Rattle.std.specs.List.{list_any}
use Rattle.std.specs.Prelude.{slice_index}
use Rattle.hb_frames.specs.Octets.{four_at}
use Rattle.hb_frames.specs.Refusals.{settings, is_refused_setting}

pub settings_more : (s : List ℕ) → 6 ≤ length s → settings s ≡ (slice_index s 0 * 256 + slice_index s 1, four_at s 2) ∷ settings (drop 6 s)
settings_more [] h = absurd (omega arith)
settings_more (a ∷ []) h = absurd (omega arith)
settings_more (a ∷ b ∷ []) h = absurd (omega arith)
settings_more (a ∷ b ∷ c ∷ []) h = absurd (omega arith)
settings_more (a ∷ b ∷ c ∷ d ∷ []) h = absurd (omega arith)
settings_more (a ∷ b ∷ c ∷ d ∷ e ∷ []) h = absurd (omega arith)
settings_more (a ∷ b ∷ c ∷ d ∷ e ∷ f ∷ rest) h = refl

pub settings_none : (s : List ℕ) → length s < 6 → settings s ≡ []
settings_none [] h = refl
settings_none (a ∷ []) h = refl
settings_none (a ∷ b ∷ []) h = refl
settings_none (a ∷ b ∷ c ∷ []) h = refl
settings_none (a ∷ b ∷ c ∷ d ∷ []) h = refl
settings_none (a ∷ b ∷ c ∷ d ∷ e ∷ []) h = refl
settings_none (a ∷ b ∷ c ∷ d ∷ e ∷ f ∷ rest) h = absurd (omega arith)

-- a setting that isn't refused says nothing of the others
pub any_refused_drop : (s : List ℕ) → 6 ≤ length s → is_refused_setting (slice_index s 0 * 256 + slice_index s 1, four_at s 2) ≡ false
    → list_any is_refused_setting (settings (drop 6 s)) ≡ list_any is_refused_setting (settings s)
any_refused_drop s h e = rw (settings_more s h, e) refl
