-- When the name of a policy stands as it is.
use Rattle.std.proofs.Common.{◌≡◌, ℕ, Bool, false, List, [], ◌∷◌, ◌++◌, length, ap, ◌∙◌, arith}
use Rattle.std.specs.Prelude.{◌&&◌, ◌==◌, not}
use Rattle.std.specs.List.{list_all}
use Rattle.std.proofs.lemmas.List.Folds.{list_all-append}
use Rattle.hb_quote.specs.Name.{is_plain, is_plain_name, policy_name}

some : (namespace name : List ℕ) → (length (policy_name namespace name) == 0) ≡ false
some [] name = grind arith
some (b ∷ namespace) name = grind arith

-- it is never empty, and a slash is plain: so where both its parts have plain octets alone
pub plain_both : (namespace name : List ℕ)
    → is_plain_name (policy_name namespace name) ≡ (list_all is_plain namespace && list_all is_plain name)
plain_both namespace name =
    let rest : list_all is_plain (policy_name namespace name) ≡ (list_all is_plain namespace && list_all is_plain name) =
    list_all-append is_plain namespace (47 ∷ name) in
    rw (some namespace name) rest
