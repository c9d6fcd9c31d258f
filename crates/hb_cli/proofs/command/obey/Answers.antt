use Rattle.std.proofs.Common.{refl, arith}
use Rattle.hb_words.specs.AskedRun.{serve_seen}
use Rattle.hb_cli.proofs.Concluding.{words_refused, words_unread}
use Rattle.hb_cli.proofs.Makes.{made}
use Rattle.hb_cli.proofs.Pages.{paged}
use Rattle.hb_cli.proofs.Serves.{served}
use Rattle.hb_cli.proofs.command.obey.Goals as goal

pub returns-in-Ok-Serve-clause-ends : goal.returns-in-Ok-Serve-clause-ends
returns-in-Ok-Serve-clause-ends g c =
    served (serve_seen c.in-Ok-Serve.asked) _ (rw c.in-Ok-Serve.field-0-is at c.in-Ok-Serve.ensures.told) c.serve_world.result (refl, refl)
    refl (omega arith, c.serve_world.ensures.later_out, c.serve_world.ensures.later_err) c.serve_world.ensures.serves

pub returns-in-Ok-Make-clause-ends : goal.returns-in-Ok-Make-clause-ends
returns-in-Ok-Make-clause-ends g c =
    made c.in-Ok-Make.asked _ (rw c.in-Ok-Make.field-0-is at c.in-Ok-Make.ensures.told) c.make_script.result (refl, refl)
    (omega arith, c.make_script.ensures.later_out, c.make_script.ensures.later_err) c.make_script.ensures.makes

pub returns-in-Ok-Print-clause-ends : goal.returns-in-Ok-Print-clause-ends
returns-in-Ok-Print-clause-ends g c =
    paged c.in-Ok-Print.page _ (rw c.in-Ok-Print.field-0-is at c.in-Ok-Print.ensures.told) c.print_page.result (refl, refl)
    (omega arith, c.print_page.ensures.later_out, c.print_page.ensures.later_err) (refl, refl, c.print_page.ensures.prints)

pub returns-in-Ok : goal.returns-in-Ok
returns-in-Ok g c =
    rw c.in-Ok.ensures.told (record {
      ends = c.conclude.ensures.ends _ refl;
      others = record {
        unread = λ none. let takes = c.conclude.ensures.by_input in absurd cc;
        unused = λ never. refl;
        follows = refl;
      };
    })

pub returns-in-Err-Fault-clause-ends : goal.returns-in-Err-Fault-clause-ends
returns-in-Err-Fault-clause-ends g c =
    words_refused _ c.in-Err-Fault.fault c.give_up.result (rw c.in-Err-Fault.field-0-is at c.in-Err-Fault.ensures.told) (refl, refl)
    (refl, refl) refl c.requires.trace (refl, refl, refl) (omega arith, omega arith, c.give_up.ensures.later) c.give_up.ensures.line

pub returns-in-Err-NoMemory-clause-ends : goal.returns-in-Err-NoMemory-clause-ends
returns-in-Err-NoMemory-clause-ends g c =
    words_unread _ c.give_up-in-Err-NoMemory.result refl (refl, refl) refl c.requires.trace (refl, refl, refl)
    (omega arith, omega arith, c.give_up-in-Err-NoMemory.ensures.later) c.give_up-in-Err-NoMemory.ensures.line
