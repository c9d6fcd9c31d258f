-- Of values in the order of their names the first is the one of the smallest name.
use Rattle.std.proofs.Common.{◌≡◌, ℕ, Bool, true, cond, List, [], ◌∷◌, Option, Some, None, refl, ap, sym, ◌∙◌}
use Rattle.std.specs.Prelude.{filter}
use Rattle.std.specs.List.{filter_map, cons_option}
use Rattle.std.specs.Option.{option_map}
use Rattle.hb_index.specs.Named.{AllBehind, Rise}
use Rattle.hb_index.proofs.Rising.{rise_filter, reversed}
use Rattle.hb_held.specs.Lookup.{lesser, least}

abbrev pub first : {X : Type 0} → List X → Option X
first [] = None
first (x ∷ xs) = Some x

lesser_first : {X : Type 0} (e : List ℕ × X) (es : List (List ℕ × X)) → AllBehind e.0 es → lesser e (first es) ≡ e
lesser_first e [] h = refl
lesser_first e (f ∷ es) h = rw (reversed e.0 f.0 h.0) refl

pub first_is_least : {X : Type 0} (es : List (List ℕ × X)) → Rise es → least es ≡ first es
first_is_least [] h = refl
first_is_least (e ∷ es) h = ap (λ o. Some (lesser e o)) (first_is_least es h.1) ∙ ap Some (lesser_first e es h.0)

module _ {A X : Type 0} (g : A → Option X) where
  -- what g makes of a value, under its name
  abbrev pub named_by : List ℕ × A → Option (List ℕ × X)
  named_by e = option_map (λ x. (e.0, x)) (g e.1)

  behind_named : (k : List ℕ) (es : List (List ℕ × A)) → AllBehind k es → AllBehind k (filter_map named_by es)
  behind_named k [] h = tt
  behind_named k (e ∷ es) h =
      elim (g e.1) as (λ o. AllBehind k (cons_option (option_map (λ x. (e.0, x)) o) (filter_map named_by es))) [
        | None ↦ behind_named k es h.1
        | Some x ↦ (h.0, behind_named k es h.1)
      ]

  pub rise_named : (es : List (List ℕ × A)) → Rise es → Rise (filter_map named_by es)
  rise_named [] h = tt
  rise_named (e ∷ es) h =
      elim (g e.1) as (λ o. Rise (cons_option (option_map (λ x. (e.0, x)) o) (filter_map named_by es))) [
        | None ↦ rise_named es h.1
        | Some x ↦ (behind_named e.0 es h.0, rise_named es h.1)
      ]

-- the first value left that passes is the one of the smallest name
pub is_least : {X : Type 0} (p : List ℕ × X → Bool) (all left rest : List (List ℕ × X)) (f : List ℕ × X) → Rise all
    → filter p left ≡ filter p all → left ≡ f ∷ rest → p f ≡ true → least (filter p all) ≡ Some f
is_least p all left rest f rises same is passes =
    first_is_least (filter p all) (rise_filter p all rises) ∙ ap first (sym same) ∙ ap (λ xs. first (filter p xs)) is
    ∙ ap (λ b. first (cond b (f ∷ filter p rest) (filter p rest))) passes

-- no value is left, so none passes
pub none_passes : {X : Type 0} (p : List ℕ × X → Bool) (all left : List (List ℕ × X)) → filter p left ≡ filter p all → left ≡ []
    → least (filter p all) ≡ None
none_passes p all left same is = ap least (sym same) ∙ ap (λ xs. least (filter p xs)) is
