-- Values in JSON.
use Rattle.std.specs.Prelude.{ℕ}
use Rattle.hb_base.specs.declared.ip.Ip.{Ip}
use Rattle.hb_base.specs.IpText.{ip_text}
use Rattle.hb_records.specs.declared.network_address.NetworkAddress.{NetworkAddress}
use Rattle.serde_json.specs.Data.{Data, number, unsigned, string}

-- an address is told as its text
abbrev pub ip_data : Ip → Data
ip_data ip = string (ip_text ip)

-- of an address of a network, the address is told
abbrev pub network_data : NetworkAddress → Data
network_data n = ip_data n.address

abbrev pub number_data : ℕ → Data
number_data n = number (unsigned n)
