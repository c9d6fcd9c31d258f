use Rattle.hb_conn.proofs.Blocks.{block_is_told}
use Rattle.hb_conn.proofs.machine.Core.on_continuation.Goals as goal

pub returns : goal.returns
returns c =
    block_is_told _ c.args.self.now c.tell_block.new.self c.go_on-told.new.self c.go_on-told.result c.tell_block.result
    c.go_on-told.ensures c.tell_block.ensures
