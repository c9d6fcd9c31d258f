use Rattle.std.proofs.Common.{sym, ap, ◌∙◌, arith, take, drop, ◌+◌}
use Rattle.std.proofs.lemmas.List.{take_all, take_rest}
use Rattle.std.proofs.Math.ListN.{drop_of_length-le}
use Rattle.hb_script.proofs.RowLemmas.{found_at, missing}
use Rattle.hb_script.proofs.script.first_row.Goals as goal

pub returns-in-Some-clause-row : goal.returns-in-Some-clause-row
returns-in-Some-clause-row c = ap (λ k. take k c.args.text.now) (found_at c.args.text.now c.in-Some.at (sym c.in-Some.ensures))

pub returns-in-Some-clause-behind : goal.returns-in-Some-clause-behind
returns-in-Some-clause-behind c = take_rest c.args.text.now (c.in-Some.at + 1)
    ∙ ap (λ k. drop (k + 1) c.args.text.now) (found_at c.args.text.now c.in-Some.at (sym c.in-Some.ensures))

pub returns-in-None-clause-row : goal.returns-in-None-clause-row
returns-in-None-clause-row c = sym (take_all _ c.args.text.now (missing c.args.text.now (sym c.in-None.ensures)))

pub returns-in-None-clause-behind : goal.returns-in-None-clause-behind
returns-in-None-clause-behind c =
    let past = missing c.args.text.now (sym c.in-None.ensures) in sym (drop_of_length-le c.args.text.now (omega arith))
