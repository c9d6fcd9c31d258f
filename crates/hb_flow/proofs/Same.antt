-- A map with a value in place of the same value is that map.
use Rattle.std.proofs.Common.{◌≡◌, ℕ, cond, Some, is_some, ap, sym, ◌∙◌, inl, inr}
use Rattle.std.specs.Ordering.{nat_cmp}
use Rattle.std.specs.Cmp.{nat_cmp_total}
use Rattle.std.specs.FinMap.{FinMap, get, insert, same_map, nat_cmp-IsAntisymmetric}
use Rattle.std.proofs.lemmas.Bool.{cases_eq}
use Rattle.hb_map.specs.Keyed.{written}
use Rattle.hb_map.proofs.Laws.{put_here, put_elsewhere}
use Rattle.hb_flow.specs.Windows.{Windows}

module _ (m : FinMap nat_cmp Windows) (k : ℕ) (w : Windows) where
  put_same : get m k ≡ Some w → insert m k w ≡ m
  put_same is = same_map nat_cmp_total nat_cmp-IsAntisymmetric _ _ (λ q. elim (cases_eq q k) [
    | inl same ↦ ap (get (insert m k w)) same ∙ put_here m k w ∙ sym is ∙ sym (ap (get m) same)
    | inr apart ↦ put_elsewhere m k w q apart
  ])

  pub written_same : get m k ≡ Some w → written m k w ≡ m
  written_same is = ap (λ o. cond (is_some o) (insert m k w) m) is ∙ put_same is
