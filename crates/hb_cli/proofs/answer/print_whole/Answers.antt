use Rattle.hb_cli.proofs.Pages.{text_in_part}
use Rattle.hb_cli.proofs.answer.print_whole.Goals as goal

pub returns-in_default : goal.returns-in_default
returns-in_default g c = record {
  prints = text_in_part _ _ c.args.text.now c.print_text.result c.tell.result c.in_default.not-Whole c.print_text.ensures.made
      c.print_text.ensures.printed c.tell.ensures.status c.tell.ensures.line;
  later_out = c.print_text.ensures.later;
  later_err = c.tell.ensures.later;
}
