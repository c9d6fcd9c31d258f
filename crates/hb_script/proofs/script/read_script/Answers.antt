use Rattle.std.proofs.Common.{arith}
use Rattle.std.proofs.lemmas.Result.{err_from_is_err_and}
use Rattle.hb_script.specs.Script.{lines}
use Rattle.hb_script.proofs.RowLemmas.{some_left, none_left, behind_is_shorter, nothing_joined, goes_on, ends, is_done}
use Rattle.hb_script.proofs.script.read_script.Goals as goal

pub loop-left-init : goal.loop-left-init
unfolding lines
loop-left-init c = record { within = omega arith; same = rw c.new-lines.ensures (nothing_joined _) }

pub returns-in_err-take_row : goal.returns-in_err-take_row
returns-in_err-take_row c =
    let p = err_from_is_err_and c.from_residual.result c.from_residual.ensures.1 in
    rw (p.1, p.2) (ends c.loop-left.number c.loop-left.lines c.in_err-take_row.field-0.0 c.loop-left.left.now _
    (rw (← c.first_row.ensures.row) c.in_err-take_row.ensures) c.loop-left.invariant.same)

pub loop-left-preserved : goal.loop-left-preserved
loop-left-preserved c =
    let less = behind_is_shorter c.loop-left.left.now (some_left c.loop-left.left.now c.loop-left-test.ensures) in
    record {
      within = rw c.first_row.ensures.behind (omega (arith, less, c.loop-left.invariant.within));
      same = rw c.first_row.ensures.behind (goes_on c.loop-left.number c.loop-left.lines _ c.loop-left.left.now _
          (rw (← c.first_row.ensures.row) c.in_ok-take_row.ensures) c.loop-left.invariant.same);
    }

pub returns : goal.returns
returns c = is_done c.loop-left.number c.loop-left.lines c.loop-left.left.now _
    (none_left _ c.loop-left-test.ensures) c.loop-left.invariant.same
