-- The initial size of windows, while the settings of one frame are applied (RFC 9113 section 6.9.2).
use Rattle.std.specs.Prelude.{ℕ, ◌≤◌, ℤ, pos, ◌≤ℤ◌, int_lt, not, Bool, true, false, IfSome, Option, Some, None}
use Rattle.std.specs.FinMap.{get}
use Rattle.hb_frames.specs.Numbers.{largest}
use Rattle.hb_flow.specs.Sizes.{Fits, resized, unbegun_on}
use Rattle.hb_conn.specs.Windows.{unbegun}
use Rattle.hb_conn.specs.declared.machine.Core.{Core}
use Rattle.hb_conn.specs.declared.sizes.Sizes.{Sizes}

-- the size is known to fit
abbrev pub allows_by : Option ℤ → ℕ → Bool
allows_by None k = false
allows_by (Some limit) k = not (int_lt limit (pos k))

abbrev pub allows : Sizes → ℕ → Bool
allows s k = allows_by s.limit k

-- the connection once the size that was put off is set
abbrev pub sized : Core → Option ℕ → Core
sized c None = c
sized c (Some k) = record c { flow = resized c.flow k }

-- with the initial size k the window of each stream stays within the largest; DATA that hasn't begun counts as not spent
abbrev pub FitsAll : Core → ℕ → Type 0
FitsAll c k =
    (k ≤ largest) × ((n : ℕ) → Fits k (unbegun_on (unbegun c).stream (unbegun c).size n) (get c.flow.streams n))

-- the size that is put off fits, and so does each one up to the limit
pub record AreKnown (c : Core) (s : Sizes) : Type 0 where
  pub pending : IfSome s.pending (FitsAll c)
  pub limit : IfSome s.limit (λ limit. (k : ℕ) → pos k ≤ℤ limit → FitsAll c k)

-- a step between connections of which the sizes that are put off are set, which may not fit
abbrev pub Postpones : (Core → Core → Bool → Type 0) → Core → Sizes → Core → Option Sizes → Type 0
Postpones Step old s new None = Step (sized old s.pending) new false
Postpones Step old s new (Some t) = Step (sized old s.pending) (sized new t.pending) true × AreKnown new t
