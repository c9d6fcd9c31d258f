use Rattle.std.proofs.Common.{refl}
use Rattle.hb_words.specs.Asked.{command_of}
use Rattle.hb_cli.proofs.Outcomes.{was_whole, was_too_long}
use Rattle.hb_cli.proofs.command.find_out.Goals as goal

pub returns-in-Err-TooLong-clause-found : goal.returns-in-Err-TooLong-clause-found
returns-in-Err-TooLong-clause-found g c =
    let read = c.in-Err-TooLong.ensures in let is = c.in-Err-TooLong.field-0-is in
    was_too_long (command_of c.args.command.now) _ _ (rw is at read.too_long refl) (rw is at read.over refl) (rw is at read.counts)

pub returns-in-Ok-answer-clause-found : goal.returns-in-Ok-answer-clause-found
returns-in-Ok-answer-clause-found g c =
    let read = c.in-Ok.ensures in
    was_whole (command_of c.args.command.now) _ _ c.in-Ok.bytes _ read.whole read.end read.counts read.within
    c.in-Ok-answer.ensures.text

pub returns-in-Err-Fault-clause-found : goal.returns-in-Err-Fault-clause-found
returns-in-Err-Fault-clause-found g c =
    let read = c.in-Ok.ensures in
    was_whole (command_of c.args.command.now) _ _ c.in-Ok.bytes _ read.whole read.end read.counts read.within
    (rw c.in-Err-Fault.field-0-is at c.in-Err-Fault.ensures.text)
