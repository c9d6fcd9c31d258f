-- The settings of a payload, one at a time.
use Rattle.std.proofs.Common.{◌≡◌, ◌≤◌, ℕ, ◌+◌, ◌*◌, Bool, true, false, List, length, drop, refl}
use Rattle.std.specs.Prelude.{slice_index}
use Rattle.std.specs.List.{list_any}
use Rattle.hb_frames.specs.Octets.{four_at}
use Rattle.hb_frames.specs.Refusals.{settings}
use Rattle.hb_frames.proofs.Settings.{settings_more}
use Rattle.hb_conn.specs.Settings.{is_push, Applies, AppliesAll}
use Rattle.hb_conn.specs.declared.machine.Core.{Core}

-- the first setting
abbrev pub first : List ℕ → ℕ × ℕ
first s = (slice_index s 0 * 256 + slice_index s 1, four_at s 2)

-- a setting that is no push says nothing of the others
pub no_push_drop : (s : List ℕ) → 6 ≤ length s → is_push (first s) ≡ false
    → list_any is_push (settings (drop 6 s)) ≡ list_any is_push (settings s)
no_push_drop s h e = rw (settings_more s h, e) refl

pub first_applied : (old mid new : Core) (s : List ℕ) (fits : Bool) → 6 ≤ length s → Applies old (first s) mid true
    → AppliesAll mid (settings (drop 6 s)) new fits → AppliesAll old (settings s) new fits
first_applied old mid new s fits h one all = rw (settings_more s h) (mid, true, one, all)

pub first_unfit : (old new : Core) (s : List ℕ) → 6 ≤ length s → Applies old (first s) new false
    → AppliesAll old (settings s) new false
first_unfit old new s h one = rw (settings_more s h) (new, false, one, (refl, refl))
