use Rattle.std.proofs.Common.{rules}
use Rattle.hb_message.proofs.Texts.{text_taken, text_refused}
use Rattle.hb_message.proofs.text.check_text.Goals as goal

pub returns-then-is_utf8 : goal.returns-then-is_utf8
returns-then-is_utf8 g c =
    text_taken g.F.MessageFault.utf8 c.args.field c.args.bytes.now (c.is_utf8.ensures.0 c.if-is_utf8.true)

pub returns : goal.returns
returns g c = rw c.of_utf8.ensures
    (text_refused g.F.MessageFault.utf8 c.args.field c.args.bytes.now
    (λ utf8. search (rules, c.if-is_utf8.false, c.is_utf8.ensures.1 utf8)))
