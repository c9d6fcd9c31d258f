-- One link alone leaves room for it.
use Rattle.std.proofs.Common.{ℕ, ◌+◌, ◌<◌, ◌≤◌, ◌==◌, Bool, false, cond, sym, subst, arith}
use Rattle.std.proofs.lemmas.Bool.{ne_eqb}
use Rattle.std.specs.Prelude.{◌≢◌}
use Rattle.hb_captured.specs.Captured as captured
use Rattle.hb_captured.specs.Captured.{Captured}
use Rattle.hb_inbound.specs.Inbound.{Inbound, no_link}
use Rattle.hb_model.specs.declared.config.NodeConfig.{NodeConfig}
use Rattle.hb_proxy.specs.Load.{most_links, most_tunnels, sum_below, one_if, counts, is_placed, links_at, tunnels_at, PlacesBurst, LinksBurst}
use Rattle.hb_proxy.specs.Machine.{Machine}
use Rattle.hb_proxy.proofs.Load.{only_one, none_below}

pub room_for_link : (g : NodeConfig) (y : Machine) (l : ℕ) → 0 < most_links g → ((k : ℕ) → k ≢ l → links_at y k ≤ 0) → links_at y l ≤ 1
    → LinksBurst false g y
room_for_link g y l some each here bound =
    let one = only_one (links_at y) l each here bound in omega (arith, one, some)

pub room_for_place : (g : NodeConfig) (y : Machine) (l : ℕ) → 0 < most_tunnels g
    → ((bound k : ℕ) → k ≢ l → tunnels_at y bound k ≤ 0) → ((bound : ℕ) → tunnels_at y bound l ≤ 1) → PlacesBurst false g y
room_for_place g y l some each here bound =
    let one = only_one (tunnels_at y bound) l (each bound) (here bound) bound in omega (arith, one, some)

-- of an inbound link alone, and of a plain one
pub link_alone : (l : ℕ) (link : Inbound) (k : ℕ) → k ≢ l → one_if (counts (cond (k == l) link no_link).phase) + 0 ≤ 0
link_alone l link k apart =
    let none : 0 ≤ 0 = omega arith in
    subst (λ (b : Bool). one_if (counts (cond b link no_link).phase) + 0 ≤ 0) (sym (ne_eqb k l apart)) none

pub place_alone : (l : ℕ) (link : Captured) (bound k : ℕ) → k ≢ l
    → sum_below (λ s. 0) bound + one_if (is_placed (cond (k == l) link captured.no_link).stage) ≤ 0
place_alone l link bound k apart =
    let front = none_below bound in
    let none : sum_below (λ s. 0) bound + 0 ≤ 0 = omega (arith, front) in
    subst (λ (b : Bool). sum_below (λ s. 0) bound + one_if (is_placed (cond b link captured.no_link).stage) ≤ 0)
    (sym (ne_eqb k l apart)) none

pub one_place : (bound : ℕ) → sum_below (λ s. 0) bound + 1 ≤ 1
one_place bound = let front = none_below bound in omega (arith, front)
