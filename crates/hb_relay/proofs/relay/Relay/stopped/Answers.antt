use Rattle.hb_relay.proofs.Meeting.{stops}
use Rattle.hb_relay.proofs.Reached.{ends_behind, notes_behind}
use Rattle.hb_relay.proofs.relay.Relay.stopped.Goals as goal

pub returns : goal.returns
returns c =
    let old = c.args.self.now in
    let mid = c.leave_stream.new.self in
    let new = c.end_for.new.self in
    let left = c.leave_stream.ensures in
    let over = c.end_for.ensures.after in
    stops old new c.args.cause c.args.begun c.end_for.result
    (notes_behind c.args.begun c.args.cause old mid new left over c.end_for.result c.end_for.ensures.note)
    (ends_behind c.args.begun c.args.cause old mid new left over)
