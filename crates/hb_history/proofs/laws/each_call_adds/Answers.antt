use Rattle.hb_history.proofs.Called.{nothing_stands}
use Rattle.hb_history.proofs.Fed.{take_adds}
use Rattle.hb_history.proofs.Adds.{next_adds, act_adds, write_adds}
use Rattle.hb_history.proofs.laws.each_call_adds.Goals as goal

pub returns : goal.returns
returns c = record { begins = nothing_stands; take = take_adds; next = next_adds; act = act_adds; write = write_adds }
