use Rattle.std.specs.Prelude.{◌≡◌, Result, Ok, Err}
use Rattle.hb_base.specs.declared.or.Or.{Or}
use Rattle.hb_base.specs.declared.or.Or.TheVariants.{Fault, NoMemory}
use Rattle.hb_streams.specs.States.{States}
use Rattle.hb_streams.specs.Moves.{Move, after}

-- the call makes this move, also where it answers a fault; where memory is wanting nothing happens
abbrev pub Makes : {X E : Type 0} → States → States → Move → Result X (Or E) → Type 0
Makes old new move (Ok _) = new ≡ after old move
Makes old new move (Err (Fault _)) = new ≡ after old move
Makes old new move (Err NoMemory) = new ≡ old
