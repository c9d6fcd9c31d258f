-- A refusal.
use Rattle.std.proofs.Common.{◌≡◌, ℕ, ◌||◌, true, sym, subst}
use Rattle.hb_conn.specs.Connection.{Connection}
use Rattle.hb_conn.specs.Observed.{sides, status_put, IsActiveOn}
use Rattle.hb_kept.proofs.Sides.{answer_ends_side}
use Rattle.hb_streams.specs.declared.sides.Sides.{Sides}

-- behind a status that ends this end's side a stream is active on which the peer's is open
pub refused_active : (c : Connection) (s n : ℕ) → (sides c s).peer ≡ true
    → IsActiveOn (status_put c s (record { number = n; end = true })) s
refused_active c s n open_still =
    subst (λ (w : Sides). (w.own || w.peer) ≡ true) (sym (answer_ends_side c s (record { number = n; end = true })).here) open_still
