use Rattle.hb_proxy.proofs.Access.{runs_admit}
use Rattle.hb_proxy.proofs.AccessEntries.{admit_entries}
use Rattle.hb_proxy.proofs.laws.peers_are_admitted.Goals as goal

pub returns : goal.returns
returns c = record { parts = runs_admit; entries = admit_entries }
