use Rattle.hb_cli.proofs.Printing.{left_printed}
use Rattle.hb_cli.proofs.answer.print_left.Goals as goal

pub returns-in-Whole-clause-printed : goal.returns-in-Whole-clause-printed
returns-in-Whole-clause-printed g c =
    left_printed c.args.fields _ _ _ _ _ _ c.as_slice.result.now _ _ _ c.left.view_is c.as_slice.ensures.value c.in-Whole.ensures.printed
    c.print_rows.ensures.printed
