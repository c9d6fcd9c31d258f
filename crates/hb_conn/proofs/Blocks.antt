-- What is told of header blocks.
use Rattle.std.proofs.Common.{Option, Result, Ok, Err, IfOk, rules}
use Rattle.hb_base.specs.declared.or.Or.{Or}
use Rattle.hb_base.specs.declared.or.Or.TheVariants.{Fault, NoMemory}
use Rattle.hb_blocks.specs.Assembly.{Assembly, Progress}
use Rattle.hb_blocks.specs.Outcome.{Makes}
use Rattle.hb_blocks.specs.declared.fault.BlockFault.{BlockFault}
use Rattle.hb_blocks.specs.declared.whole.Whole.{Whole}
use Rattle.hb_conn.specs.Headers.{DoesBlock, Tells}
use Rattle.hb_conn.specs.declared.machine.Core.{Core}
use Rattle.hb_conn.specs.declared.found.Found.{Found}

pub block_is_told : {E : Type 0} → (progress : Progress) (old new : Core) (blocks : Assembly)
    (told : Result (Option Whole) (Or BlockFault)) (r : Result Found E)
    → Makes progress old.blocks blocks told → Tells (record old { blocks = blocks }) told new r
    → IfOk r (DoesBlock progress old new)
block_is_told progress old new blocks told (Err e) makes tells = tt
block_is_told progress old new blocks (Ok whole) (Ok found) makes tells = (blocks, Ok whole, makes, tells)
block_is_told progress old new blocks (Err (Fault fault)) (Ok found) makes tells = (blocks, Err fault, makes, tells)
block_is_told progress old new blocks (Err NoMemory) (Ok found) makes tells = absurd (search rules)
