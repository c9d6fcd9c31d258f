-- A map of tunnels in which one is written again.
use Rattle.std.proofs.Common.{◌≡◌, inl, inr, ℕ, Some, ap, sym, ◌∙◌}
use Rattle.std.proofs.lemmas.Bool.{cases_eq}
use Rattle.std.specs.Cmp.{nat_cmp_total}
use Rattle.std.specs.FinMap.{get, insert, same_map, nat_cmp-IsAntisymmetric}
use Rattle.hb_map.proofs.Laws.{put_here, put_elsewhere}
use Rattle.hb_link.specs.declared.tunnel.Tunnel.{Tunnel}
use Rattle.hb_link.proofs.Moving.{Map}

module _ (tunnels : Map) (s : ℕ) (new : Tunnel) where
  -- what stood there
  pub put_same : get tunnels s ≡ Some new → insert tunnels s new ≡ tunnels
  put_same is = same_map nat_cmp_total nat_cmp-IsAntisymmetric _ _ (λ j. elim (cases_eq j s) [
    | inl same ↦ ap (get (insert tunnels s new)) same ∙ put_here tunnels s new ∙ sym is ∙ sym (ap (get tunnels) same)
    | inr apart ↦ put_elsewhere tunnels s new j apart
  ])

  -- behind another one
  pub put_twice : (mid : Tunnel) → insert (insert tunnels s mid) s new ≡ insert tunnels s new
  put_twice mid = same_map nat_cmp_total nat_cmp-IsAntisymmetric _ _ (λ j. elim (cases_eq j s) [
    | inl same ↦ ap (get (insert (insert tunnels s mid) s new)) same ∙ put_here (insert tunnels s mid) s new
        ∙ sym (put_here tunnels s new) ∙ sym (ap (get (insert tunnels s new)) same)
    | inr apart ↦ put_elsewhere (insert tunnels s mid) s new j apart ∙ put_elsewhere tunnels s mid j apart
        ∙ sym (put_elsewhere tunnels s new j apart)
  ])
