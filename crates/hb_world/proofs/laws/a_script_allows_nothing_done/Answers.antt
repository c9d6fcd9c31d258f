use Rattle.hb_world.proofs.AllowedLemmas.{allowed-none}
use Rattle.hb_world.proofs.laws.a_script_allows_nothing_done.Goals as goal

pub returns : goal.returns
returns c = allowed-none
