-- What the windows of streams are after each change of a map.
use Rattle.std.proofs.Common.{◌≡◌, ◌≢◌, ℕ, ◌==◌, true, false, IfSome, pos, ◌+ℤ◌, ◌≤ℤ◌, arith, if◌then◌else◌, Option, Some, None, is_some, unwrap_or, ◌⊎◌, refl, ap, sym, ◌∙◌, inl, inr, subst}
use Rattle.std.specs.Option.{option_map}
use Rattle.std.specs.Ordering.{nat_cmp}
use Rattle.std.specs.FinMap.{FinMap, empty, get, insert, remove, get-empty}
use Rattle.std.proofs.lemmas.Bool.{cases_eq, false≢true, eq-eqb, ne_eqb}
use Rattle.std.proofs.lemmas.Int.{ints}
use Rattle.hb_frames.specs.Numbers.{largest}
use Rattle.hb_map.specs.Keyed.{written}
use Rattle.hb_map.proofs.Laws.{put_here, put_elsewhere, removed_here, removed_elsewhere, written_here, written_elsewhere}
use Rattle.hb_flow.specs.Windows.{Windows, less}
use Rattle.hb_flow.specs.Flows.{Flows, changed, changed_by, spent, sending_by}
use Rattle.hb_flow.specs.Sizes.{with_size, all_with_size}
use Rattle.hb_flow.proofs.Sizes.{get_all}

pub same_some : (v w : Windows) → Some v ≡ Some w → w ≡ v
same_some v w e = sym (ap (λ o. unwrap_or o v) e)

never : {G : Type 0} (w : Windows) → None ≡ Some w → G
never w e = absurd (false≢true (ap is_some e))

-- a change of one stream's windows leaves the connection's
module _ (f : Flows) (n : ℕ) (change : Windows → Windows) where
  pub still_sending : (changed f n change).sending ≡ f.sending
  still_sending = elim (get f.streams n) as (λ o. (changed_by f n change o).sending ≡ f.sending) [ None ↦ refl | Some w ↦ refl ]

  pub still_taking : (changed f n change).taking ≡ f.taking
  still_taking = elim (get f.streams n) as (λ o. (changed_by f n change o).taking ≡ f.taking) [ None ↦ refl | Some w ↦ refl ]

  pub still_initial : (changed f n change).initial ≡ f.initial
  still_initial = elim (get f.streams n) as (λ o. (changed_by f n change o).initial ≡ f.initial) [ None ↦ refl | Some w ↦ refl ]

  -- the windows of the stream q were there before, and changed so where it is n
  abbrev pub Was : ℕ → Windows → Type 0
  Was q w = (v : Windows) × (get f.streams q ≡ Some v) × (w ≡ (if q == n then change v else v))

  was_by : (q : ℕ) (w : Windows) (o : Option Windows) → get f.streams n ≡ o
      → get (changed_by f n change o).streams q ≡ Some w → Was q w
  was_by q w None is there =
      elim (cases_eq q n) [
        | inl same ↦ never w (sym is ∙ ap (get f.streams) (sym same) ∙ there)
        | inr apart ↦ (w, there, sym (ap (λ b. if b then change w else w) (ne_eqb q n apart)))
      ]
  was_by q w (Some v) is there =
      elim (cases_eq q n) [
        | inl same ↦ (
          v,
          ap (get f.streams) same ∙ is,
          same_some (change v) w (sym (ap (get (written f.streams n (change v))) same
              ∙ written_here f.streams n (change v) (ap is_some is)) ∙ there)
              ∙ sym (ap (λ b. if b then change v else v) (eq-eqb q n same)),
        )
        | inr apart ↦ (
          w,
          sym (written_elsewhere f.streams n (change v) q apart) ∙ there,
          sym (ap (λ b. if b then change w else w) (ne_eqb q n apart)),
        )
      ]

  pub was : (q : ℕ) (w : Windows) → get (changed f n change).streams q ≡ Some w → Was q w
  was q w there = was_by q w (get f.streams n) refl there

  -- what the stream's windows are then, and that those of others are as they were
  pub changed_here : get (changed f n change).streams n ≡ option_map change (get f.streams n)
  changed_here = by (get f.streams n) refl
    where
      by : (o : Option Windows) → get f.streams n ≡ o → get (changed_by f n change o).streams n ≡ option_map change o
      by None is = is
      by (Some w) is = written_here f.streams n (change w) (ap is_some is)

  pub changed_elsewhere : (q : ℕ) → q ≢ n → get (changed f n change).streams q ≡ get f.streams q
  changed_elsewhere q apart =
      elim (get f.streams n) as (λ o. get (changed_by f n change o).streams q ≡ get f.streams q) [
        | None ↦ refl
        | Some w ↦ written_elsewhere f.streams n (change w) q apart
      ]

module _ (m : FinMap nat_cmp Windows) where
  -- the windows of the stream q after n got some: the new ones, or those from before
  pub was_put : (n : ℕ) (v : Windows) (q : ℕ) (w : Windows) → get (insert m n v) q ≡ Some w
      → (((q == n) ≡ true) × (w ≡ v)) ⊎ (((q == n) ≡ false) × (get m q ≡ Some w))
  was_put n v q w there =
      elim (cases_eq q n) [
        | inl same ↦ inl (eq-eqb q n same, same_some v w (sym (ap (get (insert m n v)) same ∙ put_here m n v) ∙ there))
        | inr apart ↦ inr (ne_eqb q n apart, sym (put_elsewhere m n v q apart) ∙ there)
      ]

  pub was_left : (n q : ℕ) (w : Windows) → get (remove m n) q ≡ Some w → get m q ≡ Some w
  was_left n q w there =
      elim (cases_eq q n) [
        | inl same ↦ never w (sym (ap (get (remove m n)) same ∙ removed_here m n) ∙ there)
        | inr apart ↦ sym (removed_elsewhere m n q apart) ∙ there
      ]

  sized_by : (k : ℕ) (w : Windows) (o : Option Windows) → option_map (with_size k) o ≡ Some w
      → (v : Windows) × (o ≡ Some v) × (w ≡ with_size k v)
  sized_by k w None e = never w e
  sized_by k w (Some v) e = (v, refl, same_some (with_size k v) w e)

  pub was_sized : (k q : ℕ) (w : Windows) → get (all_with_size k m) q ≡ Some w
      → (v : Windows) × (get m q ≡ Some v) × (w ≡ with_size k v)
  was_sized k q w there = sized_by k w (get m q) (sym (get_all k m q) ∙ there)

pub none_new : {G : Type 0} (q : ℕ) (w : Windows) → get (empty {X = Windows} {R = nat_cmp}) q ≡ Some w → G
none_new q w there = never w (sym (get-empty nat_cmp q) ∙ there)

-- DATA that was sent can be taken back, where its stream's window held no more than the largest
pub room_to_give_back : (f : Flows) (s n : ℕ) → IfSome (get f.streams s) (λ w. w.sending.held ≤ℤ pos largest)
    → IfSome (get (spent f s n).streams s) (λ w. (w.sending.held +ℤ pos n) ≤ℤ pos largest)
room_to_give_back f s n within =
    subst (λ o. IfSome o (λ w. (w.sending.held +ℤ pos n) ≤ℤ pos largest))
    (sym (changed_here f s (sending_by (λ w. less w n)))) (by (get f.streams s) within)
  where
    by : (o : Option Windows) → IfSome o (λ w. w.sending.held ≤ℤ pos largest)
        → IfSome (option_map (sending_by (λ w. less w n)) o) (λ w. (w.sending.held +ℤ pos n) ≤ℤ pos largest)
    by None within = tt
    by (Some w) within = omega (arith, ints)
