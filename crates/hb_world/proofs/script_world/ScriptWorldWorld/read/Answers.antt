use Rattle.std.proofs.Common.{sym, length}
use Rattle.hb_world.proofs.script_world.ScriptWorldWorld.read.Goals as goal

pub read_nothing-requires-clause-said : goal.read_nothing-requires-clause-said
read_nothing-requires-clause-said c = (length c.args.into.now, sym c.read_said.ensures.answer)
