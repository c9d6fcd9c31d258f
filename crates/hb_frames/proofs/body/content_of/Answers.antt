use Rattle.hb_frames.specs.FrameOf.{frame_of}
use Rattle.hb_frames.proofs.Padding.{pads_content}
use Rattle.hb_frames.proofs.body.content_of.Goals as goal

pub returns : goal.returns
returns c =
    rw (c.front_len.ensures.value, c.padding_len.ensures.value) (pads_content (frame_of c.args.head c.args.payload.now) c.requires.padded)
