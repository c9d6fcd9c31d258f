use Rattle.std.proofs.Common.{◌≡◌, ℕ, List, [], inl, Option, Some, sym, ◌∙◌, subst, arith}
use Rattle.std.specs.Io.KnownBytes.{Appends}
use Rattle.hb_report.specs.Total.{total_line}
use Rattle.hb_turns.specs.declared.served.Totals.{Totals}
use Rattle.hb_cli.proofs.laws.ends_of_serve_are_told_apart.Goals as goal

never : (totals : Totals) → [] ≡ total_line totals → ⊥
never totals is = absurd cc

none_appended : (a b : Option (List ℕ)) (totals : Totals) → a ≡ Some [] → b ≡ Some [] → Appends a b (total_line totals) → ⊥
none_appended a b totals a_is b_is appends =
    never totals
    (subst (λ (x : Option (List ℕ)). Appends x (Some []) (total_line totals)) a_is
    (subst (λ (y : Option (List ℕ)). Appends a y (total_line totals)) b_is appends))

pub returns-clause-words : goal.returns-clause-words
returns-clause-words g c = λ s w out err at. at

pub returns-clause-input : goal.returns-clause-input
returns-clause-input g c = λ s w out err at. at

pub returns-clause-unread : goal.returns-clause-unread
returns-clause-unread g c = λ s w out err at. at

pub returns-clause-nothing : goal.returns-clause-nothing
returns-clause-nothing g c = λ s w out err before after at.
    none_appended out.bytes out.bytes_after at.0.totals before after at.2.0

pub returns-clause-hidden : goal.returns-clause-hidden
returns-clause-hidden g c = λ s w out err before after at. let same = at.1.2 in omega (arith, before, after, same)

pub returns-clause-invented : goal.returns-clause-invented
returns-clause-invented g c = λ s w out err before after at. let same = at.1.2 in omega (arith, before, after, same)

pub returns-clause-wanting : goal.returns-clause-wanting
returns-clause-wanting g c = λ s w out err before after at. absurd (let same = sym before ∙ sym at.1.0 ∙ after in cc)

pub returns-clause-lacks : goal.returns-clause-lacks
returns-clause-lacks g c = λ s w out err unused untouched tells. (inl unused, untouched, tells)
