-- Initial sizes that are put off, until the last one is set.
use Rattle.std.proofs.Common.{◌≡◌, ℕ, true, Option, Some, None, IfSome, refl, ap, sym, arith}
use Rattle.std.specs.Prelude.{ℤ, pos, ◌≤ℤ◌}
use Rattle.std.proofs.lemmas.Bool.{false≢true}
use Rattle.std.proofs.lemmas.Int.{ints}
use Rattle.hb_flow.specs.Flows.{Flows}
use Rattle.hb_flow.specs.Sizes.{IsSizeLimit, resized}
use Rattle.hb_flow.proofs.Limits.{fits_under, fits_resized, resized_twice}
use Rattle.hb_conn.specs.Settings.{Resized}
use Rattle.hb_conn.specs.Sizes.{allows_by, sized, FitsAll}
use Rattle.hb_conn.specs.Windows.{unbegun}
use Rattle.hb_conn.specs.declared.machine.Core.{Core}

-- a size that fits is as good as set in place of one that was put off
pub put_off : (c : Core) (pending : Option ℕ) (k : ℕ) → FitsAll c k → Resized (sized c pending) k (sized c (Some k)) true
put_off c None k fit = (fit.0, (fit.1, refl), refl)
put_off c (Some j) k fit =
    let twice : resized (resized c.flow j) k ≡ resized c.flow k = resized_twice c.flow j k in (
      fit.0,
      (fits_resized c.flow (unbegun c).stream (unbegun c).size j k fit.1, sym twice),
      ap (λ (f : Flows). record c { flow = f }) (sym twice),
    )

pub known_fits : (c : Core) (limit : Option ℤ) (k : ℕ) → IfSome limit (λ limit. (k : ℕ) → pos k ≤ℤ limit → FitsAll c k)
    → allows_by limit k ≡ true → FitsAll c k
known_fits c None k known allowed = absurd (false≢true allowed)
known_fits c (Some limit) k known allowed = known k (grind (arith, ints, allowed))

pub under_the_limit : (c : Core) (limit : ℤ) → IsSizeLimit c.flow (unbegun c).stream (unbegun c).size limit
    → (k : ℕ) → pos k ≤ℤ limit → FitsAll c k
under_the_limit c limit is k small = fits_under c.flow (unbegun c).stream (unbegun c).size k limit is small
