use Rattle.hb_conn.proofs.Blocks.{block_is_told}
use Rattle.hb_conn.proofs.machine.Core.on_headers.Goals as goal

pub returns : goal.returns
returns c =
    block_is_told _ c.args.self.now c.tell_block.new.self c.begin-told.new.self c.begin-told.result c.tell_block.result
    c.begin-told.ensures c.tell_block.ensures
