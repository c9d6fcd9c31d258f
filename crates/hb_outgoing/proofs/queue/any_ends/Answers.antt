use Rattle.std.proofs.Common.{ap, ◌∙◌, sym, arith}
use Rattle.std.specs.List.{list_any}
use Rattle.hb_outgoing.specs.Selected.{frame_ends}
use Rattle.hb_outgoing.proofs.Queues.{no_frames_behind}
use Rattle.hb_outgoing.proofs.queue.any_ends.Goals as goal

pub returns : goal.returns
returns c =
    let none = no_frames_behind c.args.bytes.now c.loop-at.at (omega (arith, c.loop-at-test.false)) in
    sym (ap (list_any (frame_ends c.args.stream)) none) ∙ c.loop-at.invariant.found
