use Rattle.std.proofs.Common.{◌∷◌, ◌∙◌, List, ℕ, refl, sym, ap, rules}
use Rattle.hb_base.specs.Parts.{parts}
use Rattle.hb_base.proofs.PartsLemmas.{uncut, cut}
use Rattle.hb_base.proofs.IdentityLemmas.{other_parts}
use Rattle.hb_base.proofs.identity.names.Goals as goal

pub returns-in_err-trust_domain-clause-value : goal.returns-in_err-trust_domain-clause-value
returns-in_err-trust_domain-clause-value c =
    rw (c.from_residual.ensures, uncut 47 c.args.principal.now c.in_err-trust_domain.ensures) refl

pub returns-in_err-namespace_word-clause-value : goal.returns-in_err-namespace_word-clause-value
returns-in_err-namespace_word-clause-value c =
    rw (c.from_residual-in_err-namespace_word.ensures, cut 47 c.args.principal.now _ _ c.in_ok-trust_domain.ensures)
    (sym (other_parts c.in_ok-trust_domain.trust_domain.now (parts 47 c.in_ok-trust_domain.rest.now) c.in_err-namespace_word.ensures))

pub returns-then-spelled-clause-value : goal.returns-then-spelled-clause-value
returns-then-spelled-clause-value c =
    let whole = cut 47 c.args.principal.now _ _ c.in_ok-trust_domain.ensures
    ∙ ap (λ (ps : List (List ℕ)). c.in_ok-trust_domain.trust_domain.now ∷ ps) c.in_ok-namespace_word.ensures in
    rw whole (search rules)

pub returns-else-spelled-clause-value : goal.returns-else-spelled-clause-value
returns-else-spelled-clause-value c =
    let whole = cut 47 c.args.principal.now _ _ c.in_ok-trust_domain.ensures
    ∙ ap (λ (ps : List (List ℕ)). c.in_ok-trust_domain.trust_domain.now ∷ ps) c.in_ok-namespace_word.ensures in
    rw whole (search rules)
