use Rattle.std.proofs.Common.{◌≡◌, ℕ, List, [], ◌∷◌, inl, Option, Some, refl, sym, ap, subst, arith}
use Rattle.std.specs.Io.KnownBytes.{Appends}
use Rattle.hb_words.specs.Page.{page_text}
use Rattle.hb_words.specs.declared.page.Page.TheVariants.{Commands, Version}
use Rattle.hb_cli.proofs.laws.ends_of_pages_are_told_apart.Goals as goal

appended : (a b : Option (List ℕ)) (before after text : List ℕ) → a ≡ Some before → b ≡ Some after → Appends a b text
    → Appends (Some before) (Some after) text
appended a b before after text a_is b_is appends =
    subst (λ (x : Option (List ℕ)). Appends x (Some after) text) a_is
    (subst (λ (y : Option (List ℕ)). Appends a y text) b_is appends)

no_text : Appends (Some []) (Some []) (page_text Version) → ⊥
no_text is = absurd cc

abbrev first : List ℕ → ℕ
first [] = 0
first (n ∷ rest) = n

-- the pages begin with other characters
no_other : Appends (Some []) (Some (page_text Commands)) (page_text Version) → ⊥
no_other is = let same : 65 ≡ 104 = ap first is in omega (arith, same)

-- what was empty has this text now
has : (a b : Option (List ℕ)) (text : List ℕ) → a ≡ Some [] → b ≡ Some text → Appends a b text
has a b text a_is b_is =
    subst (λ (x : Option (List ℕ)). Appends x b text) (sym a_is) (subst (λ (y : Option (List ℕ)). Appends (Some []) y text) (sym b_is) refl)

pub returns-clause-words : goal.returns-clause-words
returns-clause-words g c = λ p h before left out err at. at.2

pub returns-clause-input : goal.returns-clause-input
returns-clause-input g c = λ p h before left out err at. at.2

pub returns-clause-world : goal.returns-clause-world
returns-clause-world g c = λ p h before left out err at. at.2

pub returns-clause-turns : goal.returns-clause-turns
returns-clause-turns g c = λ p h before left out err at. at.2

pub returns-clause-unread : goal.returns-clause-unread
returns-clause-unread g c = λ p h before left out err at. at.2

pub returns-clause-nothing : goal.returns-clause-nothing
returns-clause-nothing g c = λ h before left out err old new at.
    no_text (appended out.bytes out.bytes_after [] [] (page_text Version) old new at.2.0.0)

pub returns-clause-another : goal.returns-clause-another
returns-clause-another g c = λ h before left out err old new at.
    no_other (appended out.bytes out.bytes_after [] (page_text Commands) (page_text Version) old new at.2.0.0)

pub returns-clause-printed : goal.returns-clause-printed
returns-clause-printed g c = λ p h state out err hears old new faults told still silent. (
  refl,
  hears,
  (
    (has out.bytes out.bytes_after (page_text p) old new, faults),
    inl
        (has err.bytes err.bytes_after [] told still, silent),
  ),
)
