-- Prefixes of addresses (RFC 4291 section 2.3, RFC 4632 section 3.1).
use Rattle.std.specs.Prelude.{ℕ, ◌/◌, ◌^◌, ◌-◌, ◌==◌, ◌&&◌, nat_le, nat_eq, Bool, false, if◌then◌else◌, List, drop, Option, Some, None}
use Rattle.std.specs.Prelude.{length as list_length}
use Rattle.std.specs.List.{starts_with}
use Rattle.std.specs.Int.{from_be_bytes, w32, w128}
use Rattle.hb_base.specs.Octets.{mapped_prefix}
use Rattle.hb_base.specs.declared.cidr.Cidr.{Cidr}
use Rattle.hb_base.specs.declared.ip.Ip.{Ip}
use Rattle.hb_base.specs.declared.ip.Ip.TheVariants.{V4, V6}

-- two numbers of so many bits have the same first bits
abbrev pub same_front : ℕ → ℕ → ℕ → ℕ → Bool
same_front bits front a b = a / 2 ^ (bits - front) == b / 2 ^ (bits - front)

-- whether an address is in the set that a prefix stands for: it is of the same family, and its first bits are the same
abbrev pub is_in : Ip → ℕ → Ip → Bool
is_in (V4 a) front (V4 b) = same_front 32 front a b
is_in (V4 a) front (V6 b) = false
is_in (V6 a) front (V4 b) = false
is_in (V6 a) front (V6 b) = same_front 128 front a b

abbrev pub covers : Cidr → Ip → Bool
covers prefix ip = is_in prefix.ip prefix.length ip

-- a prefix of an address of so many bits
abbrev pub within : ℕ → Ip → ℕ → Option Cidr
within bits ip front = if nat_le front bits then Some (record { ip = ip; length = front }) else None

-- four octets as an IPv4 prefix
abbrev pub v4_prefix : List ℕ → ℕ → Option Cidr
v4_prefix octets front = if list_length octets == 4 then within 32 (V4 (from_be_bytes w32 octets)) front else None

-- The prefix that octets and a length give. Sixteen octets that map an IPv4 address, with 96 bits or more, give a prefix of
-- that address, since it covers mapped addresses alone. With fewer bits they give an IPv6 prefix.
abbrev pub cidr_of : List ℕ → ℕ → Option Cidr
cidr_of octets front =
    if list_length octets == 16 then
    (if nat_le 96 front && starts_with nat_eq octets mapped_prefix then v4_prefix (drop 12 octets) (front - 96)
    else within 128 (V6 (from_be_bytes w128 octets)) front)
    else v4_prefix octets front
