-- What holds of each machine that a node shows, proved.
use Rattle.std.proofs.Common.{◌≡◌, ◌⊎◌, ◌≤◌, ◌<◌, ℕ, ◌==◌, Bool, true, false, List, [], length, Option, Some, None, refl, ap, sym, subst, inl, inr, arith}
use Rattle.std.proofs.lemmas.Bool.{eqb-true, eqb-false}
use Rattle.hb_conn.specs.Connection.{Connection}
use Rattle.hb_conn.specs.Observed.{output, room, own_side_open}
use Rattle.hb_model.specs.Discovery.{Phase, live, stream}
use Rattle.hb_model.specs.Machine.{Machine}
use Rattle.hb_model.specs.Runs.{IsCalm, wanted_by}
use Rattle.hb_model.proofs.AllPut.{none_put}
use Rattle.hb_node.specs.declared.link.Link.{Link}
use Rattle.hb_node.specs.Phases.{phase_of}
use Rattle.hb_node.specs.Links.{IsKept, SteadyBy, IsSteady}
use Rattle.hb_node.specs.State.{IsGone, ShowsLink}
use Rattle.hb_node.specs.Laws.{ReadsWhereRoom, AllIsPut}
use Rattle.hb_node.proofs.Kept.{wants_some}

-- a link that isn't gone is steady
steady_where : (b : Bool) (k : Link) (m : Machine) (l : ℕ) → ShowsLink (Some k) m → (k.number == l) ≡ b
    → IsGone (m.links l).phase ⊎ (IsSteady (m.links l) × ((m.links l).phase ≡ phase_of k.phase))
steady_where true k m l shows is =
    let here = eqb-true k.number l is in
    inr (subst (λ n. IsSteady (m.links n)) here shows.3, subst (λ n. (m.links n).phase ≡ phase_of k.phase) here shows.2.phase)
steady_where false k m l shows is = inl (shows.4 l (λ same. eqb-false k.number l is (sym same)))

-- one that lives is
live_steady : (o : Option Link) (m : Machine) (l : ℕ) → ShowsLink o m → (m.links l).phase ≡ live → IsKept (m.links l) × IsCalm (m.links l)
live_steady None m l shows lives = absurd (subst IsGone lives (shows.1 l))
live_steady (Some k) m l shows lives = from (steady_where (k.number == l) k m l shows refl)
  where
    from : IsGone (m.links l).phase ⊎ (IsSteady (m.links l) × ((m.links l).phase ≡ phase_of k.phase))
        → IsKept (m.links l) × IsCalm (m.links l)
    from (inl gone) = absurd (subst IsGone lives gone)
    from (inr is) = subst (λ (p : Phase). SteadyBy p (m.links l)) lives is.0

-- bytes are wanted of it where there is room
pub reads : ReadsWhereRoom
reads s m l shows lives room =
    let kept = live_steady s.link m l shows.link lives in
    subst (λ (p : Phase). 0 < wanted_by p (m.links l)) (sym lives) (wants_some (m.links l) kept.0 kept.1 room)

-- where nothing waits to be written there is room
room_where_empty : (c : Connection) → output c ≡ [] → 17 ≤ room c
room_where_empty c empty = omega (arith, ap (λ (xs : List ℕ). length xs) empty)

-- where nothing waits to be written, all is put
pub all_is_put : AllIsPut
all_is_put s m l shows lives empty =
    let kept = live_steady s.link m l shows.link lives in
    let x = m.links l in (
      kept.0.caught_up (room_where_empty x.conn empty),
      none_put x.conn x.waiting (own_side_open x.conn stream) kept.0.goes_on empty
          kept.1.all_put,
    )
