use Rattle.std.proofs.Common.{rules, sym, length}
use Rattle.hb_world.proofs.script_world.ScriptWorldWorld.write.Goals as goal

pub write_nothing-requires-clause-said : goal.write_nothing-requires-clause-said
write_nothing-requires-clause-said c = (length c.args.from.now, sym c.write_said.ensures)

pub write_bytes-requires-clause-said : goal.write_bytes-requires-clause-said
write_bytes-requires-clause-said c = (length c.args.from.now, search rules)
