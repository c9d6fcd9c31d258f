-- A header and its bytes (PROXY protocol section 2.2).
use Rattle.std.specs.Prelude.{◌≡◌, ℕ, ◌<◌, ◌≤◌, ◌^◌, ◌==◌, if◌then◌else◌, List, [], ◌∷◌, ◌++◌, length, Option, Some, None}
use Rattle.std.specs.Int.{w16, to_be_bytes}
use Rattle.std.specs.List.{flat_map, AllByRecursion}
use Rattle.hb_front.specs.Tlvs.{Tlv, TlvFits, tlv_text}
use Rattle.hb_front.specs.declared.family.Family.{Family}
use Rattle.hb_front.specs.declared.family.Family.TheVariants.{Inet, Inet6}

-- the byte of TCP over IPv4, or over IPv6
abbrev pub family_byte : Family → ℕ
family_byte Inet = 17
family_byte Inet6 = 33

-- the family of a byte
abbrev pub family_of : ℕ → Option Family
family_of byte = if byte == 17 then Some Inet else if byte == 33 then Some Inet6 else None

-- the octets of an address
abbrev pub address_len : Family → ℕ
address_len Inet = 4
address_len Inet6 = 16

-- what a header has: both addresses as octets, both ports, and TLVs in any order
pub record Header : Type 0 where
  pub family : Family
  pub source : List ℕ
  pub destination : List ℕ
  pub source_port : ℕ
  pub destination_port : ℕ
  pub tlvs : List Tlv

-- the twelve bytes that begin each header
abbrev pub signature : List ℕ
signature = 13 ∷ 10 ∷ 13 ∷ 10 ∷ 0 ∷ 13 ∷ 10 ∷ 81 ∷ 85 ∷ 73 ∷ 84 ∷ 10 ∷ []

-- what stands behind the length: addresses, ports and TLVs
abbrev pub body : Header → List ℕ
body h = h.source ++ (h.destination ++ (to_be_bytes w16 h.source_port
    ++ (to_be_bytes w16 h.destination_port ++ flat_map tlv_text h.tlvs)))

-- the bytes of a header: signature, version 2 with command PROXY, family, the length of what follows, and that
abbrev pub spelling : Header → List ℕ
spelling h = signature ++ (33 ∷ family_byte h.family ∷ (to_be_bytes w16 (length (body h)) ++ body h))

-- each part has the size that its place has, and all behind the length has at most 4,096 bytes
pub record Fits (h : Header) : Type 0 where
  pub source : length h.source ≡ address_len h.family
  pub destination : length h.destination ≡ address_len h.family
  pub source_port : h.source_port < 2 ^ 16
  pub destination_port : h.destination_port < 2 ^ 16
  pub tlvs : AllByRecursion TlvFits h.tlvs
  pub size : length (body h) ≤ 4096
