use Rattle.std.proofs.lemmas.Result.{IfOk-weaker}
use Rattle.hb_base.specs.TargetText.{target_text}
use Rattle.hb_headers.proofs.TargetLength.{target_short}
use Rattle.hb_headers.proofs.headers.authority.Goals as goal

pub returns-clause-short : goal.returns-clause-short
unfolding target_text
returns-clause-short c =
    let short = target_short c.args.ip c.args.port c.ranges.port.fits in
    let is = c.in_ok-put_target.ensures {u = tt} in
    IfOk-weaker c.header.result _ _ (λ h e. rw e (rw (c.as_slice.ensures.value, is, c.new-text.ensures.items) short)) c.header.ensures
