use Rattle.std.proofs.Common.{ℕ, List, ◌++◌, codes, append_assoc, append-nil, refl, ap, ◌∙◌, arith}
use Rattle.std.proofs.lemmas.Fmt.{decimal_digit}
use Rattle.hb_base.specs.TargetText.{target_text}
use Rattle.hb_base.specs.declared.target.Target.{Target}
use Rattle.hb_log.proofs.laws.facts_have_these_lines.Goals as goal

-- what stands in front of the newline, or of the end
dialled : Target → List ℕ
dialled to = codes "control link=1 dialled=" ++ target_text to

failed : Target → List ℕ
failed to = codes "control dial=" ++ target_text to

pub returns-clause-dial : goal.returns-clause-dial
unfolding dialled
returns-clause-dial c = λ to. rw (decimal_digit 1 (omega arith)) (ap (λ text. text ++ codes "\n") (append-nil (dialled to)))

pub returns-clause-fifth : goal.returns-clause-fifth
unfolding failed
returns-clause-fifth c = λ to. rw (decimal_digit 5 (omega arith))
    (append_assoc (failed to ++ codes " failed") (codes " again=5") (codes "\n") ∙ append_assoc (failed to) (codes " failed") (codes " again=5\n"))

pub returns-clause-open : goal.returns-clause-open
returns-clause-open c = rw (decimal_digit 9 (omega arith)) refl

pub returns-clause-end : goal.returns-clause-end
returns-clause-end c = rw (decimal_digit 9 (omega arith)) refl

pub returns-clause-word : goal.returns-clause-word
returns-clause-word c = rw (decimal_digit 1 (omega arith)) refl

pub returns-clause-way : goal.returns-clause-way
returns-clause-way c = λ to. rw (decimal_digit 4 (omega arith)) refl

pub returns-clause-close : goal.returns-clause-close
returns-clause-close c = rw (decimal_digit 7 (omega arith), decimal_digit 3 (omega arith)) refl

pub returns-clause-more : goal.returns-clause-more
returns-clause-more c = rw (decimal_digit 2 (omega arith)) refl
