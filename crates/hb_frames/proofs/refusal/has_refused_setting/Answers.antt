use Rattle.std.proofs.Common.{◌∙◌, sym}
use Rattle.hb_frames.proofs.Settings.{any_refused_drop}
use Rattle.hb_frames.proofs.refusal.has_refused_setting.Goals as goal

pub loop-left-preserved : goal.loop-left-preserved
loop-left-preserved c =
    let kept = sym c.is_refused_setting.ensures ∙ c.if-is_refused_setting.false in
    rw c.split_at.ensures.back
    (any_refused_drop c.loop-left.left.now c.loop-left-test.true kept ∙ c.loop-left.invariant)
