use Rattle.std.proofs.Common.{◌∙◌, sym}
use Rattle.hb_hpack.specs.Encoding.{same_name}
use Rattle.hb_hpack.proofs.StaticIndexes.{index_here, index_behind, index_none}
use Rattle.hb_hpack.proofs.encoder.index_of_name.Goals as goal

pub returns-then-has_name : goal.returns-then-has_name
returns-then-has_name c =
    index_here (same_name c.args.h.now) c.loop-place.place _ c.loop-place-test.true
    (rw c.as_slice-name.ensures at (sym c.has_name.ensures ∙ c.if-has_name.true)) c.loop-place.invariant

pub loop-place-preserved : goal.loop-place-preserved
loop-place-preserved c =
    index_behind (same_name c.args.h.now) c.loop-place.place _ c.loop-place-test.true
    (rw c.as_slice-name.ensures at (sym c.has_name.ensures ∙ c.if-has_name.false)) c.loop-place.invariant

pub returns : goal.returns
returns c = index_none (same_name c.args.h.now) c.loop-place.place _ c.loop-place-test.false c.loop-place.invariant
