use Rattle.hb_base.proofs.AddressLemmas.{ip_of-text}
use Rattle.hb_base.proofs.laws.written_addresses_are_read.Goals as goal

pub returns : goal.returns
returns c = ip_of-text
