use Rattle.std.proofs.Common.{sym, ◌∙◌}
use Rattle.hb_words.proofs.Numbers.{digits_read, plain_digits, not_plain, number_read, number_low, number_high, number_none}
use Rattle.hb_words.proofs.number.read_number.Goals as goal

pub returns-then-not-is_plain-clause-value : goal.returns-then-not-is_plain-clause-value
returns-then-not-is_plain-clause-value c =
    sym (not_plain c.args.least c.args.most c.args.text.now (sym c.is_plain.ensures ∙ c.if-not-is_plain.true))

pub returns-in-Ok-clause-value : goal.returns-in-Ok-clause-value
returns-in-Ok-clause-value c =
    let plain = sym c.is_plain.ensures ∙ c.if-not-is_plain.false in
    let digits = plain_digits c.args.text.now plain in
    sym (number_read c.args.least c.args.most c.args.text.now c.parse.result c.in-Ok.number
    (digits_read c.args.text.now c.parse.result c.parse.ensures.value.0 digits) c.in-Ok.is plain
    c.if-least-number.true c.if-number-most.true)

pub returns-in_default-clause-value : goal.returns-in_default-clause-value
returns-in_default-clause-value c =
    let plain = sym c.is_plain.ensures ∙ c.if-not-is_plain.false in
    let digits = plain_digits c.args.text.now plain in
    sym (number_high c.args.least c.args.most c.args.text.now c.parse.result c.in-Ok.number
    (digits_read c.args.text.now c.parse.result c.parse.ensures.value.0 digits) c.in-Ok.is c.if-number-most.false)

pub returns-in_default-2-clause-value : goal.returns-in_default-2-clause-value
returns-in_default-2-clause-value c =
    let plain = sym c.is_plain.ensures ∙ c.if-not-is_plain.false in
    let digits = plain_digits c.args.text.now plain in
    sym (number_low c.args.least c.args.most c.args.text.now c.parse.result c.in-Ok.number
    (digits_read c.args.text.now c.parse.result c.parse.ensures.value.0 digits) c.in-Ok.is c.if-least-number.false)

pub returns-in_default-3-clause-value : goal.returns-in_default-3-clause-value
returns-in_default-3-clause-value c =
    let plain = sym c.is_plain.ensures ∙ c.if-not-is_plain.false in
    let digits = plain_digits c.args.text.now plain in
    sym (number_none c.args.least c.args.most c.args.text.now c.parse.result c.in_default.field-0
    (digits_read c.args.text.now c.parse.result c.parse.ensures.value.0 digits) c.in_default.is c.ranges.most.fits)
