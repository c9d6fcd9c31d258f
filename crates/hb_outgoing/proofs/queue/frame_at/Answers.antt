use Rattle.std.proofs.Common.{◌≡◌, ◌-◌, length, drop, sym, subst, ap, arith, ◌∙◌, length-take, length-drop}
use Rattle.std.proofs.lemmas.List.{take_all}
use Rattle.hb_frames.specs.RawFrame.{size_at}
use Rattle.hb_outgoing.specs.Queue.{IsPlaced}
use Rattle.hb_outgoing.proofs.Queues.{placed, next_at}
use Rattle.hb_outgoing.proofs.queue.frame_at.Goals as goal

pub first_frame-requires : goal.first_frame-requires
first_frame-requires c =
    let bytes = c.args.bytes.now in
    let next = next_at bytes c.args.at c.requires.whole c.requires.more in
    omega (arith, next.within, length-drop c.args.at bytes, length-take (length bytes - c.args.at) (drop c.args.at bytes))

pub returns-clause-placed : goal.returns-clause-placed
returns-clause-placed c =
    let bytes = c.args.bytes.now in
    let at = c.args.at in
    let all = take_all (length bytes - at) (drop at bytes) (omega (arith, length-drop at bytes)) in
    let size_is : c.first_frame.result.size ≡ size_at (drop at bytes) = c.first_frame.ensures.size ∙ ap size_at all in
    subst (IsPlaced bytes at) (sym size_is) (placed bytes at c.requires.whole c.requires.more)
