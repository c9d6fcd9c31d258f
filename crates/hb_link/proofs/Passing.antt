-- An upstream that is roused is told.
use Rattle.std.proofs.Common.{◌≡◌, ◌⊎◌, inl, inr, ⊎_elim, ◌==◌, ◌+◌, ℕ, ◌<◌, ◌≤◌, ◌^◌, ◌||◌, true, false, List, [], ◌∷◌, ◌++◌, Option, Some, None, refl, ap, sym, ◌∙◌, subst, arith}
use Rattle.std.proofs.lemmas.List.{append-nil}
use Rattle.std.proofs.lemmas.List.Folds.{list_any-append}
use Rattle.std.proofs.lemmas.Bool.{cases_order, eqb-true, false≢true, leb-true, le-leb, or_cases, or_left, or_right}
use Rattle.std.specs.Option.{SomeIff}
use Rattle.hb_link.specs.declared.link.Link.{Link}
use Rattle.hb_link.specs.declared.roused.Roused.{Roused}
use Rattle.hb_link.specs.Observed.{up_on, IsNextUp}
use Rattle.hb_link.specs.Rousing.{is_few, is_from, roused_on, Passes, Tells}

-- of the few, where the last one is taken
few_left : (few rest : List ℕ) (stream s : ℕ) (from : Option ℕ) → few ≡ rest ++ stream ∷ [] → (is_few few s || is_from from s) ≡ true
    → ((is_few rest s || is_from from s) ≡ true) ⊎ (stream ≡ s)
few_left few rest stream s from is roused =
    ⊎_elim
    (λ (one : is_few few s ≡ true).
    ⊎_elim (λ still. inl (or_left (is_few rest s) (is_from from s) still))
    (λ last. inr (eqb-true stream s (⊎_elim (λ here. here) (λ no. absurd (false≢true no)) (or_cases (stream == s) false last))))
    (or_cases (is_few rest s) ((stream == s) || false)
    (sym (list_any-append (λ n. n == s) rest (stream ∷ [])) ∙ ap (λ (xs : List ℕ). is_few xs s) (sym is) ∙ one)))
    (λ more. inl (or_right (is_few rest s) (is_from from s) more))
    (or_cases (is_few few s) (is_from from s) roused)

pub passes_same : (k : Link) → Passes None k k
passes_same k = record { same = refl; kept = λ s some was. inl was }

-- behind others that have no upstream
module _ (k m : Link) (r : Roused) (stream : ℕ) (passes : Passes None k m) (is : m.roused.few.items ≡ r.few.items ++ stream ∷ [])
    (from : r.from ≡ m.roused.from) where
  abbrev pub without : Link
  without = record m { roused = r }

  without_same : without ≡ record k { roused = without.roused }
  without_same = ap (λ (w : Link). record w { roused = r }) passes.same

  pub up_still : (s : ℕ) → up_on without s ≡ up_on k s
  up_still s = ap (λ (w : Link). up_on w s) without_same

  still_or_last : (s : ℕ) → 0 < up_on k s → roused_on k s ≡ true → (roused_on without s ≡ true) ⊎ (stream ≡ s)
  still_or_last s some was =
      ⊎_elim
      (λ still. few_left m.roused.few.items r.few.items stream s r.from is
      (ap (λ (o : Option ℕ). is_few m.roused.few.items s || is_from o s) from ∙ still))
      (λ no. (let never : None ≡ Some (up_on k s) = no in absurd cc)) (passes.kept s some was)

  pub none_passes : up_on without stream ≡ 0 → Passes None k without
  none_passes none = record {
    same = without_same;
    kept = λ s some was. ⊎_elim inl
        (λ last. (let zero_up = sym (up_still stream) ∙ none in
        let here = ap (up_on k) last in
        absurd (omega (arith, some, zero_up, here)))) (still_or_last s some was);
  }

  pub some_passes : Passes (Some (up_on without stream)) k without
  some_passes = record {
    same = without_same;
    kept = λ s some was. ⊎_elim inl (λ last. inr (ap Some (up_still stream ∙ ap (up_on k) last))) (still_or_last s some was);
  }

-- where there was none to be taken
pub still_passes : (k m : Link) (r : Roused) → Passes None k m → m.roused.few.items ≡ r.few.items ++ [] → r.from ≡ m.roused.from
    → Passes None k (record m { roused = r })
still_passes k m r passes is from = record {
  same = ap (λ (w : Link). record w { roused = r }) passes.same;
  kept = λ s some was. ⊎_elim
      (λ (still : roused_on m s ≡ true). inl (ap (λ (xs : List ℕ). is_few xs s || is_from r.from s) (sym (is ∙ append-nil r.few.items))
      ∙ ap (λ (o : Option ℕ). is_few m.roused.few.items s || is_from o s) from ∙ still))
      inr (passes.kept s some was);
}

-- of the rest, where none of the few is left
module _ (k : Link) (none : k.roused.few.items ≡ []) where
  abbrev pub from_on : Option ℕ → Link
  from_on from = record k { roused = record k.roused { from = from } }

  few_none : (s : ℕ) (from : Option ℕ) → roused_on (from_on from) s ≡ is_from from s
  few_none s from = ap (λ (xs : List ℕ). is_few xs s || is_from from s) none

  pub none_tells : k.roused.from ≡ None → Tells None k k
  none_tells is = record {
    passes = passes_same k;
    none = λ told s. ap (λ (xs : List ℕ). is_few xs s || is_from k.roused.from s) none ∙ ap (λ (o : Option ℕ). is_from o s) is;
  }

  module _ (from : ℕ) (is : k.roused.from ≡ Some from) where
    low : (s : ℕ) → roused_on k s ≡ true → from ≤ s
    low s was =
        leb-true from s (sym (ap (λ (xs : List ℕ). is_few xs s || is_from k.roused.from s) none
        ∙ ap (λ (o : Option ℕ). is_from o s) is) ∙ was)

    pub over_tells : IsNextUp (from_on None) from None → Tells None k (from_on None)
    over_tells over = record {
      passes = record { same = refl; kept = λ s some was. absurd (let zero_up = over s (low s was) in omega (arith, some, zero_up)) };
      none = λ told s. few_none s None;
    }

    -- what is left are those of higher streams
    pub next_tells : (stream up : ℕ) (next : Option ℕ) → IsNextUp (from_on None) from (Some (stream, up))
        → ((s : ℕ) → 0 < up_on k s → s < 2 ^ 32) → SomeIff next (stream + 1 < 2 ^ 32) (stream + 1) → Tells (Some up) k (from_on next)
    next_tells stream up next first narrow on = record {
      passes = record {
        same = refl;
        kept = λ s some was.
            ⊎_elim (λ (here : s ≡ stream). inr (ap Some (sym first.2 ∙ ap (up_on k) (sym here))))
            (λ apart. ⊎_elim
            (λ (below : s < stream). absurd (let zero_up = first.3 s (low s was) below in omega (arith, some, zero_up)))
            (λ above. inl (few_none s next ∙ above_by next on s above (narrow s some))) apart)
            (cases_order s stream);
      };
      none = λ no. (let never : Some up ≡ None = no in absurd cc);
    }
      where
        above_by : (o : Option ℕ) → SomeIff o (stream + 1 < 2 ^ 32) (stream + 1) → (s : ℕ) → stream < s → s < 2 ^ 32 → is_from o s ≡ true
        above_by None over s above few = absurd (over (omega (arith, above, few)))
        above_by (Some next) goes s above few = let is = goes.0 in le-leb next s (omega (arith, is, above))

-- of the few first
pub then_tells : (told : Option ℕ) (k m n : Link) → Passes None k m → Tells told m n → Tells told k n
then_tells told k m n first behind = record {
  passes = record {
    same = behind.passes.same ∙ ap (λ (w : Link). record w { roused = n.roused }) first.same;
    kept = λ s some was.
        let up_is : up_on m s ≡ up_on k s = ap (λ (w : Link). up_on w s) first.same in
        ⊎_elim
        (λ still. ⊎_elim inl (λ is. inr (is ∙ ap Some up_is))
        (behind.passes.kept s (subst (λ (u : ℕ). 0 < u) (sym up_is) some) still))
        (λ no. (let never : None ≡ Some (up_on k s) = no in absurd cc)) (first.kept s some was);
  };
  none = behind.none;
}

pub one_tells : (up : ℕ) (k n : Link) → Passes (Some up) k n → Tells (Some up) k n
one_tells up k n passes = record { passes = passes; none = λ no. (let never : Some up ≡ None = no in absurd cc) }
