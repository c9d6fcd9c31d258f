use Rattle.std.proofs.Common.{◌-◌, ◌∙◌, length, drop, arith, length-take, length-drop}
use Rattle.hb_base.proofs.BytesLemmas.{Appends-next}
use Rattle.hb_base.proofs.writing.put_all.Goals as goal

pub loop-at-preserved : goal.loop-at-preserved
loop-at-preserved g c = record {
  within = omega (
    arith,
    c.in-Took.ensures.bytes.1,
    length-take (length c.args.bytes.now - c.loop-at.at)
        (drop c.loop-at.at c.args.bytes.now),
    length-drop c.loop-at.at c.args.bytes.now,
  );
  so_far = Appends-next _ _ _ c.args.bytes.now c.loop-at.at c.in-Took.n c.loop-at.invariant.so_far c.in-Took.ensures.bytes.2;
  same = c.in-Took.ensures.counts ∙ c.loop-at.invariant.same;
}
