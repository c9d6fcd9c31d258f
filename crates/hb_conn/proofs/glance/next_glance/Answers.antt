use Rattle.std.proofs.Common.{◌∙◌, ap, sym}
use Rattle.hb_frames.specs.RawFrame.{raw_at}
use Rattle.hb_conn.specs.Glance.{glance_by}
use Rattle.hb_conn.proofs.Taken.{frame_falls}
use Rattle.hb_conn.proofs.glance.next_glance.Goals as goal

pub returns-in-Ok-Some-clause-seen : goal.returns-in-Ok-Some-clause-seen
returns-in-Ok-Some-clause-seen c =
    let size = rw (c.in-Ok-Some.is, c.in-Ok-Some.field-0-is) at c.next_frame.ensures.size in
    let r = c.args.reader.now in
    c.glance_at.ensures.value (raw_at r.held) size.4 ∙ sym (ap (glance_by r) size.1)

pub returns-in-Ok-Some-clause-falls : goal.returns-in-Ok-Some-clause-falls
returns-in-Ok-Some-clause-falls c =
    let size = rw (c.in-Ok-Some.is, c.in-Ok-Some.field-0-is) at c.next_frame.ensures.size in
    frame_falls c.glance_at.result c.args.reader.now c.next_frame.follows.lender-at-none size.0 size.1 size.2 size.3
    c.next_frame.follows.holds-at-none
