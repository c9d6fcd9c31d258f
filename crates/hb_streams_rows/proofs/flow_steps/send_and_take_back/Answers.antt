use Rattle.std.proofs.Common.{rules, pos, ◌+ℤ◌, ◌≤ℤ◌, IfSome, sym, subst}
use Rattle.std.specs.FinMap.{get}
use Rattle.hb_frames.specs.Numbers.{largest}
use Rattle.hb_flow.specs.Flows.{Flows}
use Rattle.hb_flow.proofs.Changes.{room_to_give_back}
use Rattle.hb_streams_rows.proofs.flow_steps.send_and_take_back.Goals as goal

pub give_back-requires-clause-stream : goal.give_back-requires-clause-stream
give_back-requires-clause-stream c =
    subst (λ (f : Flows). IfSome (get f.streams c.args.stream) (λ w. (w.sending.held +ℤ pos c.args.n) ≤ℤ pos largest))
    (sym c.spend.ensures)
    (room_to_give_back c.args.flow.now c.args.stream c.args.n (c.sendable-sendable.ensures.most (search rules)).1)
