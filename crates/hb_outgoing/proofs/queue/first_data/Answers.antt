use Rattle.std.proofs.Common.{ap, ◌∙◌, sym, arith}
use Rattle.hb_outgoing.specs.Selected.{first_data}
use Rattle.hb_outgoing.proofs.Queues.{no_frames_behind}
use Rattle.hb_outgoing.proofs.queue.first_data.Goals as goal

pub returns : goal.returns
returns c =
    let none = no_frames_behind c.args.bytes.now c.loop-at.at (omega (arith, c.loop-at-test.false)) in
    sym (ap first_data none) ∙ c.loop-at.invariant.found
