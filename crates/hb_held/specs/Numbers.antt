-- The numbers by which records are found: those of addresses and of texts.
use Rattle.std.specs.Prelude.{ℕ, ◌+◌, ◌*◌, ◌%◌, ◌^◌, List, [], ◌∷◌, ◌++◌, map}
use Rattle.hb_base.specs.declared.ip.Ip.{Ip}
use Rattle.hb_base.specs.declared.ip.Ip.TheVariants as ips
use Rattle.hb_records.specs.declared.address.AddressRecord.{AddressRecord}
use Rattle.hb_records.specs.declared.address.AddressRecord.TheVariants as addresses
use Rattle.hb_records.specs.declared.authorization.Authorization.{Authorization}
use Rattle.hb_records.specs.declared.port.ServicePorts.{ServicePorts}
use Rattle.hb_held.specs.declared.versioned.Versioned.{Versioned}
use Rattle.hb_held.specs.Policies.{policy_key}

-- an address as a number
abbrev pub number_of : Ip → ℕ
number_of (ips.V4 n) = n
number_of (ips.V6 n) = n

-- a number and one byte more
abbrev pub with_byte : ℕ → ℕ → ℕ
with_byte n byte = ((n * 1099511628211) % 2 ^ 64 + byte) % 2 ^ 64

abbrev pub with_bytes : ℕ → List ℕ → ℕ
with_bytes n [] = n
with_bytes n (b ∷ bs) = with_bytes (with_byte n b) bs

-- a text as a number; texts may share one
abbrev pub text_number : List ℕ → ℕ
text_number text = with_bytes 14695981039346656037 text

-- the number of the key of a service that a workload serves
abbrev pub service_number : ServicePorts → ℕ
service_number s = text_number s.key

-- the numbers of a record's addresses, of any network, and of the services that it serves
abbrev pub numbers_of : AddressRecord → List ℕ
numbers_of (addresses.Workload w) = map number_of w.addresses ++ map service_number w.services
numbers_of (addresses.Service s) = map (λ a. number_of a.address) s.addresses

abbrev pub address_numbers : Versioned AddressRecord → List ℕ
address_numbers v = numbers_of v.content

-- the number of the key by which workloads ask for a policy
abbrev pub policy_numbers : Versioned Authorization → List ℕ
policy_numbers v = text_number (policy_key v.content) ∷ []
