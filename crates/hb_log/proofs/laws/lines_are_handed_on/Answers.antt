use Rattle.std.proofs.Common.{◌≡◌, ℕ, List, Some, codes, get_or, refl, ap, ◌∙◌, inl, inr, arith}
use Rattle.std.proofs.lemmas.Fmt.{decimal_digit}
use Rattle.hb_log.specs.Examples.{Hands}
use Rattle.hb_log.specs.declared.fact.Fact.TheVariants.{More}
use Rattle.hb_log.specs.declared.teller.Teller.{Teller}
use Rattle.hb_log.proofs.laws.lines_are_handed_on.Goals as goal

-- the octet at a place
abbrev at : ℕ → List ℕ → ℕ
at place text = get_or text place 0

none_lacked : ◌≡◌ {A = ℕ} 0 1 → ⊥
none_lacked same = omega (arith, same)

three : ◌≡◌ {A = ℕ} 51 50 → ⊥
three same = omega (arith, same)

behind : ◌≡◌ {A = ℕ} 99 0 → ⊥
behind same = omega (arith, same)

-- a line that was handed on without want of memory is this one
handed : (line : List ℕ) (t : Teller (List ℕ)) → Hands line 0 (Some (More 2)) t → line ≡ codes "closed more=2\n"
handed line t (known, inl told) = told.0 ∙ rw (decimal_digit 2 (omega arith)) refl
handed line t (known, inr lacked) = absurd (none_lacked lacked.1)

pub returns-clause-handed : goal.returns-clause-handed
returns-clause-handed c = λ t. (refl, inl (rw (decimal_digit 2 (omega arith)) refl, refl))

pub returns-clause-another : goal.returns-clause-another
returns-clause-another c = λ t told. three (ap (at 12) (handed (codes "closed more=3\n") t told))

pub returns-clause-twice : goal.returns-clause-twice
returns-clause-twice c = λ t told. behind (ap (at 14) (handed (codes "closed more=2\nclosed more=2\n") t told))
