use Rattle.std.proofs.Common.{◌∷◌, ◌∙◌, List, ℕ, length, sym, ap, arith}
use Rattle.hb_base.proofs.PartsLemmas.{uncut, cut, cut_makes_two, no_cut_makes_one}
use Rattle.hb_base.proofs.parts.four_parts.Goals as goal

pub returns-in_err-first : goal.returns-in_err-first
returns-in_err-first c =
    let one = ap length (uncut c.args.separator c.args.text.now c.in_err-first.ensures) in
    rw c.from_residual.ensures (λ four. omega (arith, one, four))

pub returns-in_err-second : goal.returns-in_err-second
returns-in_err-second c =
    let first = ap length (cut c.args.separator c.args.text.now _ _ c.in_ok-first.ensures) in
    let one = ap length (uncut c.args.separator c.in_ok-first.rest.now c.in_err-second.ensures) in
    rw c.from_residual-in_err-second.ensures (λ four. omega (arith, first, one, four))

pub returns-in_err-third : goal.returns-in_err-third
returns-in_err-third c =
    let first = ap length (cut c.args.separator c.args.text.now _ _ c.in_ok-first.ensures) in
    let second = ap length (cut c.args.separator c.in_ok-first.rest.now _ _ c.in_ok-second.ensures) in
    let one = ap length (uncut c.args.separator c.in_ok-second.rest.now c.in_err-third.ensures) in
    rw c.from_residual-in_err-third.ensures (λ four. omega (arith, first, second, one, four))

pub returns-then-is_some : goal.returns-then-is_some
returns-then-is_some c =
    let first = ap length (cut c.args.separator c.args.text.now _ _ c.in_ok-first.ensures) in
    let second = ap length (cut c.args.separator c.in_ok-first.rest.now _ _ c.in_ok-second.ensures) in
    let third = ap length (cut c.args.separator c.in_ok-second.rest.now _ _ c.in_ok-third.ensures) in
    let two = cut_makes_two c.args.separator c.in_ok-third.fourth.now c.cut_first-4.result c.cut_first-4.ensures
    (sym c.is_some.ensures ∙ c.if-is_some.true) in
    λ four. omega (arith, first, second, third, two, four)

pub returns : goal.returns
returns c =
    let one = no_cut_makes_one c.args.separator c.in_ok-third.fourth.now c.cut_first-4.result c.cut_first-4.ensures
    (sym c.is_some.ensures ∙ c.if-is_some.false) in
    cut c.args.separator c.args.text.now _ _ c.in_ok-first.ensures
    ∙ ap (λ (ps : List (List ℕ)). c.in_ok-first.first.now ∷ ps) (cut c.args.separator c.in_ok-first.rest.now _ _ c.in_ok-second.ensures
    ∙ ap (λ (ps : List (List ℕ)). c.in_ok-second.second.now ∷ ps) (cut c.args.separator c.in_ok-second.rest.now _ _ c.in_ok-third.ensures
    ∙ ap (λ (ps : List (List ℕ)). c.in_ok-third.third.now ∷ ps) one))
