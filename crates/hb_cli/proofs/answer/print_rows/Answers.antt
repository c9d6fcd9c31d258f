use Rattle.std.proofs.Common.{◌++◌, ◌∙◌, arith}
use Rattle.std.specs.List.{flat_map}
use Rattle.hb_held.specs.Rows.{row_as, rows_left}
use Rattle.hb_cli.specs.Run.{held_line}
use Rattle.hb_cli.proofs.Printing.{writes_on, stops, next_line, row_in_part}
use Rattle.hb_cli.proofs.answer.print_rows.Goals as goal

pub returns-in_default-held_line-clause-printed : goal.returns-in_default-held_line-clause-printed
returns-in_default-held_line-clause-printed g c =
    let i = c.loop-row.invariant in stops _ _ _ _ i.0 (flat_map (held_line c.args.fields) (rows_left c.loop-row.rows)) _ i.1 i.2

pub returns-in_default-print_text : goal.returns-in_default-print_text
returns-in_default-print_text g c =
    let i = c.loop-row.invariant in
    record {
      printed = row_in_part c.args.fields _ _ _ _ _ _ i.0 c.as_slice.result.now (row_as c.in-Some.row) (rows_left c.loop-row.rows)
          (rows_left c.next.new.self) _ _ c.in_default-print_text.not-Whole i.1 c.print_text.ensures.printed
          (c.as_slice.ensures.value ∙ c.in-Ok.ensures) c.in-Some.ensures.steps i.2;
      later = omega (arith, i.3, c.print_text.ensures.later);
    }

pub loop-row-preserved : goal.loop-row-preserved
loop-row-preserved g c =
    let i = c.loop-row.invariant in
    let line = c.as_slice.result.now in (
      i.0 ++ line,
      writes_on _ _ _ _ _ _ i.0 line i.1 c.in-Whole.ensures.printed,
      next_line (held_line c.args.fields) i.0 line (row_as c.in-Some.row) (rows_left c.loop-row.rows) (rows_left c.next.new.self) _
          (c.as_slice.ensures.value ∙ c.in-Ok.ensures) c.in-Some.ensures.steps i.2,
      omega (arith, i.3, c.print_text.ensures.later),
    )
