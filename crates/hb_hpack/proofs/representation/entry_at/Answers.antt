use Rattle.std.proofs.Common.{◌∙◌, sym, ap, arith, Some}
use Rattle.hb_hpack.specs.declared.header.Header.{Header}
use Rattle.hb_hpack.proofs.Entries.{entry_none, entry_static, entry_dynamic}
use Rattle.hb_hpack.proofs.representation.entry_at.Goals as goal

pub returns-then-index-eq0 : goal.returns-then-index-eq0
returns-then-index-eq0 c = rw c.if-index-eq0.true (sym (entry_none c.args.table.now))

pub returns-then-place-lt61 : goal.returns-then-place-lt61
returns-then-place-lt61 c =
    sym (entry_static c.args.table.now c.args.index (omega (arith, c.if-index-eq0.false)) c.if-place-lt61.true ∙ c.static_header.ensures)

pub returns-in-None : goal.returns-in-None
returns-in-None c =
    c.in-None.ensures ∙ sym (entry_dynamic c.args.table.now c.args.index (omega (arith, c.if-index-eq0.false)) c.if-place-lt61.false)

pub returns-in-Some : goal.returns-in-Some
returns-in-Some c =
    ap (λ (h : Header). Some h) c.parts.ensures ∙ c.in-Some.ensures
    ∙ sym (entry_dynamic c.args.table.now c.args.index (omega (arith, c.if-index-eq0.false)) c.if-place-lt61.false)
