use Rattle.std.proofs.Common.{rules, sym, ap, ◌∙◌, Some}
use Rattle.hb_base.proofs.Utf8Test.{text_of-utf8, text_of-other}
use Rattle.hb_base.proofs.text.Text.of.Goals as goal

pub returns-then-not-is_utf8-clause-value : goal.returns-then-not-is_utf8-clause-value
returns-then-not-is_utf8-clause-value c =
    sym (text_of-other c.args.b.now (λ utf8. search (rules, c.if-not-is_utf8.true, c.is_utf8.ensures.1 utf8)))

pub returns-clause-value : goal.returns-clause-value
returns-clause-value c = ap Some c.in_ok-place.ensures
    ∙ sym (text_of-utf8 c.args.b.now (c.is_utf8.ensures.0 (search (rules, c.if-not-is_utf8.false))))
