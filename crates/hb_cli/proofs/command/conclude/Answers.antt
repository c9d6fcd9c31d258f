use Rattle.std.proofs.Common.{Ok, Err, refl, sym, subst, arith}
use Rattle.hb_audit.specs.HeldBy.{answers_by}
use Rattle.hb_serve.specs.Served.{Heard}
use Rattle.hb_words.specs.Asked.{command_of}
use Rattle.hb_cli.specs.Hearing.{HearsBy}
use Rattle.hb_cli.specs.Replaying.{done_by}
use Rattle.hb_cli.proofs.Concluding.{gave_up, printed_whole, printed_part, printed_short}
use Rattle.hb_cli.proofs.command.conclude.Goals as goal

pub returns-in-Err-clause-ends : goal.returns-in-Err-clause-ends
returns-in-Err-clause-ends g c = λ w is.
    gave_up _ _ _ w _ _ (command_of c.args.command.now) c.requires.by_input (c.find_out.ensures.later, omega arith, c.give_up.ensures.later)
    c.in-Err.stop c.give_up.result c.requires.trace c.in-Err.ensures.found (refl, refl) c.in-Err.ensures.leaves
    (subst (λ (h : Heard (answers_by g.A.Audit.notes g.A.Audit.answers)). HearsBy (command_of c.args.command.now) h
    (done_by c.find_out.new.script.trace c.find_out.new.keep) (Err c.in-Err.stop)) (sym is)
    c.in-Err.ensures.heard) c.give_up.ensures.line

pub returns-in-Whole-clause-ends : goal.returns-in-Whole-clause-ends
returns-in-Whole-clause-ends g c = λ w is.
    printed_whole _ _ _ w _ _ (command_of c.args.command.now) c.requires.by_input
    (c.find_out.ensures.later, c.print.ensures.later, c.end.ensures.later) c.in-Ok.answer c.in-Ok.ensures.kind c.in-Ok.ensures.found
    c.in-Ok.ensures.leaves
    (subst (λ (h : Heard (answers_by g.A.Audit.notes g.A.Audit.answers)). HearsBy (command_of c.args.command.now) h
    (done_by c.find_out.new.script.trace c.find_out.new.keep) (Ok c.in-Ok.answer)) (sym is)
    c.in-Ok.ensures.heard) c.end.result c.in-Whole.ensures.printed c.end.ensures.ends

pub returns-in-Failed-clause-ends : goal.returns-in-Failed-clause-ends
returns-in-Failed-clause-ends g c = λ w is.
    printed_part _ _ _ w _ _ (command_of c.args.command.now) c.requires.by_input
    (c.find_out.ensures.later, c.print.ensures.later, c.tell.ensures.later) c.in-Ok.answer c.in-Ok.ensures.kind c.in-Ok.ensures.found
    c.in-Ok.ensures.leaves
    (subst (λ (h : Heard (answers_by g.A.Audit.notes g.A.Audit.answers)). HearsBy (command_of c.args.command.now) h
    (done_by c.find_out.new.script.trace c.find_out.new.keep) (Ok c.in-Ok.answer)) (sym is)
    c.in-Ok.ensures.heard) c.tell.result c.tell.ensures.status c.in-Failed.ensures.printed c.tell.ensures.line

pub returns-clause-ends : goal.returns-clause-ends
returns-clause-ends g c = λ w is.
    printed_short _ _ _ w _ _ (command_of c.args.command.now) c.requires.by_input
    (c.find_out.ensures.later, c.print.ensures.later, c.tell-in-NoMemory.ensures.later) c.in-Ok.answer c.in-Ok.ensures.kind
    c.in-Ok.ensures.found c.in-Ok.ensures.leaves
    (subst (λ (h : Heard (answers_by g.A.Audit.notes g.A.Audit.answers)). HearsBy (command_of c.args.command.now) h
    (done_by c.find_out.new.script.trace c.find_out.new.keep) (Ok c.in-Ok.answer)) (sym is)
    c.in-Ok.ensures.heard) c.print.result c.tell-in-NoMemory.result c.in-NoMemory.is c.print.ensures.made c.print.ensures.printed
    c.tell-in-NoMemory.ensures.status c.tell-in-NoMemory.ensures.line
