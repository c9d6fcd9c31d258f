-- Tests, and lists of which some or none pass one.
use Rattle.std.proofs.Common.{◌≡◌, ◌&&◌, ◌||◌, Bool, true, false, List, [], ◌∷◌, ◌++◌, refl, ap, sym, ◌∙◌}
use Rattle.std.specs.List.{list_any}
use Rattle.std.proofs.lemmas.Bool.{false≢true}
use Rattle.std.proofs.lemmas.List.Folds.{list_any-append}

pub or_behind : (a b : Bool) → b ≡ true → (a || b) ≡ true
or_behind true b is = refl
or_behind false b is = is

pub or_so : (a b c d : Bool) → (a ≡ true → c ≡ true) → (b ≡ true → d ≡ true) → (a || b) ≡ true → (c || d) ≡ true
or_so true b c d first rest is = ap (λ (x : Bool). x || d) (first refl)
or_so false b c d first rest is = or_behind c d (rest is)

pub or_none : (a b : Bool) → a ≡ false → b ≡ false → (a || b) ≡ false
or_none true b first rest = first
or_none false b first rest = rest

pub none_of_both : (a b : Bool) → (a || b) ≡ false → (a ≡ false) × (b ≡ false)
none_of_both true b is = absurd (false≢true (sym is))
none_of_both false b is = (refl, is)

pub and_both : (a b : Bool) → (a && b) ≡ true → (a ≡ true) × (b ≡ true)
and_both true b is = (refl, is)
and_both false b is = absurd (false≢true is)

-- a test that holds where another does
pub any_so : {X : Type 0} (is says : X → Bool) → ((x : X) → is x ≡ true → says x ≡ true) → (xs : List X) → list_any is xs ≡ true
    → list_any says xs ≡ true
any_so is says so [] was = was
any_so is says so (x ∷ xs) was =
    or_so (is x) (list_any is xs) (says x) (list_any says xs) (so x) (any_so is says so xs) was

-- what none of a list does none of a front of it does
pub none_in_front : {X : Type 0} (is : X → Bool) (xs front rest : List X) → xs ≡ front ++ rest → list_any is xs ≡ false
    → list_any is front ≡ false
none_in_front is xs front rest are none =
    (none_of_both (list_any is front) (list_any is rest) (sym (ap (list_any is) are ∙ list_any-append is front rest) ∙ none)).0
