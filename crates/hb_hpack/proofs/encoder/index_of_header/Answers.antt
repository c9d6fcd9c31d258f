use Rattle.std.proofs.Common.{◌∙◌, sym}
use Rattle.hb_hpack.specs.Encoding.{same_header}
use Rattle.hb_hpack.proofs.StaticIndexes.{index_here, index_behind, index_none}
use Rattle.hb_hpack.proofs.encoder.index_of_header.Goals as goal

pub returns-then-has_header : goal.returns-then-has_header
returns-then-has_header c =
    index_here (same_header c.args.h.now) c.loop-place.place _ c.loop-place-test.true
    (rw (c.as_slice-name.ensures, c.as_slice-value.ensures) at (sym c.has_header.ensures ∙ c.if-has_header.true)) c.loop-place.invariant

pub loop-place-preserved : goal.loop-place-preserved
loop-place-preserved c =
    index_behind (same_header c.args.h.now) c.loop-place.place _ c.loop-place-test.true
    (rw (c.as_slice-name.ensures, c.as_slice-value.ensures) at (sym c.has_header.ensures ∙ c.if-has_header.false)) c.loop-place.invariant

pub returns : goal.returns
returns c = index_none (same_header c.args.h.now) c.loop-place.place _ c.loop-place-test.false c.loop-place.invariant
