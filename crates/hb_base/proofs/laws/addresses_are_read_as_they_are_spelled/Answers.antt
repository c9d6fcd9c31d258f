use Rattle.hb_base.proofs.AddressLemmas.{ip_spelled, ip_of-spelled}
use Rattle.hb_base.proofs.laws.addresses_are_read_as_they_are_spelled.Goals as goal

pub returns : goal.returns
returns c text ip = (ip_spelled text ip, ip_of-spelled text ip)
