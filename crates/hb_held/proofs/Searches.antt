-- What a look-up finds is held, and nothing that passes has a smaller name.
use Rattle.std.proofs.Common.{◌≡◌, ℕ, Bool, true, false, cond, List, [], ◌∷◌, Option, Some, None, refl, ap, sym, ◌∙◌, subst}
use Rattle.std.specs.Prelude.{filter}
use Rattle.std.specs.List.{filter_map, cons_option}
use Rattle.std.specs.Option.{option_map}
use Rattle.std.specs.Ordering.{is_lt, is_eq, eq_by_cmp}
use Rattle.std.specs.Cmp.{tied_itself}
use Rattle.std.specs.Cmp.Lexicographic.{nat_list_cmp_total}
use Rattle.std.specs.FinMap.{find}
use Rattle.hb_index.specs.Named.{AllBehind, Rise}
use Rattle.hb_index.proofs.Entries.{by_bytes, equal}
use Rattle.hb_index.proofs.Rising.{same, found_behind, found_later, reversed}
use Rattle.hb_held.proofs.Least.{first, named_by}

no_value : {A P : Type 0} (x : A) → None ≡ Some x → P
no_value x e = absurd cc

module _ {A X : Type 0} (g : A → Option X) (p : X → Bool) where
  -- the values that g makes and that pass
  abbrev pub passing : List (List ℕ × A) → List (List ℕ × X)
  passing es = filter (λ e. p e.1) (filter_map (named_by g) es)

  -- a value is held under a name, and makes this one, which passes
  abbrev pub IsHeld : List (List ℕ × A) → List ℕ × X → Type 0
  IsHeld es f = (v : A) × (find by_bytes f.0 es ≡ Some v) × (g v ≡ Some f.1) × (p f.1 ≡ true)

  later : (e : List ℕ × A) (es : List (List ℕ × A)) (f : List ℕ × X) → AllBehind e.0 es → IsHeld es f → IsHeld (e ∷ es) f
  later e es f h held = (held.0, found_later e es f.0 held.0 h held.1, held.2, held.3)

  here : (e : List ℕ × A) (es : List (List ℕ × A)) (x : X) (f : List ℕ × X) → g e.1 ≡ Some x → p x ≡ true → Some (e.0, x) ≡ Some f
      → IsHeld (e ∷ es) f
  here e es x f makes passes is =
      subst (IsHeld (e ∷ es)) (same (e.0, x) f is) (
        e.1,
        ap (λ b. cond b (Some e.1) (find by_bytes e.0 es)) (ap is_eq (tied_itself nat_list_cmp_total e.0)),
        makes,
        passes,
      )

  pub found_is_held : (es : List (List ℕ × A)) (f : List ℕ × X) → Rise es → first (passing es) ≡ Some f → IsHeld es f
  found_is_held [] f h is = no_value f is
  found_is_held (e ∷ es) f h is =
      elim (g e.1) as (λ o. g e.1 ≡ o
      → first (filter (λ d. p d.1) (cons_option (option_map (λ x. (e.0, x)) o) (filter_map (named_by g) es))) ≡ Some f
      → IsHeld (e ∷ es) f) [
        | None ↦ λ _ there. later e es f h.0 (found_is_held es f h.1 there)
        | Some x ↦ λ makes found. elim (p x) as (λ b. p x ≡ b → first (cond b ((e.0, x) ∷ passing es) (passing es)) ≡ Some f
            → IsHeld (e ∷ es) f) [
              | true ↦ λ passes there. here e es x f makes passes there
              | false ↦ λ _ there. later e es f h.0 (found_is_held es f h.1 there)
            ] refl found
      ] refl is

  -- what was found has no greater name
  abbrev pub HasAtMost : List ℕ → Option (List ℕ × X) → Type 0
  HasAtMost name None = ⊥
  HasAtMost name (Some f) = is_lt (by_bytes name f.0) ≡ false

  pub none_is_smaller : (es : List (List ℕ × A)) (name : List ℕ) (v : A) (x : X) → Rise es → find by_bytes name es ≡ Some v → g v ≡ Some x
      → p x ≡ true → HasAtMost name (first (passing es))
  none_is_smaller [] name v x h is makes passes = no_value v is
  none_is_smaller (e ∷ es) name v x h is makes passes =
      elim (eq_by_cmp by_bytes name e.0) as (λ b. eq_by_cmp by_bytes name e.0 ≡ b → cond b (Some e.1) (find by_bytes name es) ≡ Some v
      → HasAtMost name (first (passing (e ∷ es)))) [
        | true ↦ λ tie there.
            let made : g e.1 ≡ Some x = ap g (same e.1 v there) ∙ makes in
            let found : first (passing (e ∷ es)) ≡ Some (e.0, x) =
            ap (λ o. first (filter (λ d. p d.1) (cons_option (option_map (λ y. (e.0, y)) o) (filter_map (named_by g) es)))) made
            ∙ ap (λ b. first (cond b ((e.0, x) ∷ passing es) (passing es))) passes in
            subst (HasAtMost name) (sym found) (ap is_lt (equal _ tie))
        | false ↦ λ _ there. elim (g e.1) as (λ o.
            HasAtMost name (first (filter (λ d. p d.1) (cons_option (option_map (λ y. (e.0, y)) o) (filter_map (named_by g) es))))) [
              | None ↦ none_is_smaller es name v x h.1 there makes passes
              | Some y ↦ elim (p y) as (λ b. HasAtMost name (first (cond b ((e.0, y) ∷ passing es) (passing es)))) [
                | true ↦ reversed e.0 name (found_behind e.0 es name v h.0 there)
                | false ↦ none_is_smaller es name v x h.1 there makes passes
              ]
            ]
      ] refl is
