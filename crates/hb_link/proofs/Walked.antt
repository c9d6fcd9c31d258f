-- A walk over the upstreams of a link's tunnels.
use Rattle.std.proofs.Common.{◌≡◌, ℕ, ◌+◌, ◌<◌, ◌≤◌, ◌^◌, inl, inr, Option, Some, None, IsSome, is_some, refl, ap, sym, ◌∙◌, arith}
use Rattle.std.proofs.lemmas.Bool.{cases_eq, cases_lt}
use Rattle.std.specs.FinMap.{get}
use Rattle.hb_map.specs.Keyed.{IsFirstFrom}
use Rattle.hb_link.specs.declared.link.Link.{Link}
use Rattle.hb_link.specs.declared.tunnel.Tunnel.{Tunnel}
use Rattle.hb_link.specs.Observed.{up_in, up_on, IsNextUp}
use Rattle.hb_link.proofs.Loads.{place_of}

-- from a number on to where the walk stands no tunnel has an upstream
pub record Walked (from : ℕ) (next : Option ℕ) (k : Link) : Type 0 where
  pub low : from ≤ place_of next
  pub none : (s : ℕ) → from ≤ s → s < place_of next → up_on k s ≡ 0

module _ (k : Link) (from : ℕ) where
  -- where the code has no tunnel there is none
  up_none : (s : ℕ) → get k.tunnels s ≡ None → up_on k s ≡ 0
  up_none s none = ap up_in none

  pub begins : (next : Option ℕ) → from < 2 ^ 32 → IsFirstFrom k.tunnels from next → Walked from next k
  begins None fits none = record { low = omega (arith, fits); none = λ s low less. up_none s (none s low) }
  begins (Some next) fits is = record { low = is.0; none = λ s low less. up_none s (is.2 s low less) }

  module _ (stream : ℕ) (walked : Walked from (Some stream) k) where
    up_to : up_on k stream ≡ 0 → (s : ℕ) → from ≤ s → s < stream + 1 → up_on k s ≡ 0
    up_to here s low less = elim (cases_eq s stream) [
      | inl same ↦ ap (up_on k) same ∙ here
      | inr apart ↦ walked.none s low (omega (arith, apart, less))
    ]

    pub goes_on : (next : Option ℕ) → stream < 2 ^ 32 → up_on k stream ≡ 0 → IsFirstFrom k.tunnels (stream + 1) next → Walked from next k
    goes_on None fits here none = record {
      low = omega (arith, fits, walked.low);
      none = λ s low less. elim (cases_lt s (stream + 1)) [
        | inl before ↦ up_to here s low before
        | inr more ↦ up_none s (none s more)
      ];
    }
    goes_on (Some next) fits here is = record {
      low = omega (arith, walked.low, is.0);
      none = λ s low less. elim (cases_lt s (stream + 1)) [
        | inl before ↦ up_to here s low before
        | inr more ↦ up_none s (is.2 s more less)
      ];
    }

    pub found : (up : ℕ) → up ≡ up_on k stream → 0 < up → IsNextUp k from (Some (stream, up))
    found up is some = (walked.low, some, sym is, walked.none)

  pub ends : ((n : ℕ) → IsSome (get k.tunnels n) → n < 2 ^ 32) → Walked from None k → IsNextUp k from None
  ends narrow walked s low = elim (cases_lt s (2 ^ 32)) [
    | inl less ↦ walked.none s low less
    | inr high ↦ up_none s (by (get k.tunnels s) refl high)
  ]
    where
      by : (o : Option Tunnel) → get k.tunnels s ≡ o → 2 ^ 32 ≤ s → get k.tunnels s ≡ None
      by None is high = is
      by (Some t) is high = absurd (let less = narrow s (ap is_some is) in omega (arith, less, high))
