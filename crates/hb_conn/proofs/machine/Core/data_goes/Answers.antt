use Rattle.hb_conn.proofs.Flowing.{data_is_kept}
use Rattle.hb_conn.proofs.machine.Core.data_goes.Goals as goal

pub owe_stream-requires : goal.owe_stream-requires
owe_stream-requires c =
    let flow = c.args.self.now.flow in
    let takes = rw c.in-Ok.is at c.take_stream.ensures in
    data_is_kept flow c.take_stream.new.self c.args.stream c.args.counted c.padding_of.result takes c.padding_of.ensures.within
