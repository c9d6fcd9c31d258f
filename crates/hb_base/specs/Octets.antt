-- An address as octets.
use Rattle.std.specs.Prelude.{◌≡◌, ◌<◌, ◌^◌, ℕ, ◌==◌, if◌then◌else◌, false, List, [], ◌∷◌, length, nat_eq, drop, Option, Some, None}
use Rattle.std.specs.List.{starts_with}
use Rattle.std.specs.Int.{from_be_bytes, to_be_bytes, w32, w128}
use Rattle.hb_base.specs.declared.ip.Ip.{Ip}
use Rattle.hb_base.specs.declared.ip.Ip.TheVariants.{V4, V6}

-- the twelve octets before an IPv4 address mapped into IPv6 (RFC 4291 section 2.5.5.2)
abbrev pub mapped_prefix : List ℕ
mapped_prefix = 0 ∷ 0 ∷ 0 ∷ 0 ∷ 0 ∷ 0 ∷ 0 ∷ 0 ∷ 0 ∷ 0 ∷ 255 ∷ 255 ∷ []

-- the address that octets give, most significant first: four make an IPv4 address, sixteen an IPv6
-- address or, where they map one, the IPv4 address
abbrev pub ip_of_octets : List ℕ → Option Ip
ip_of_octets octets =
    if length octets == 4 then Some (V4 (from_be_bytes w32 octets))
    else if length octets == 16 then
    (if starts_with nat_eq octets mapped_prefix then Some (V4 (from_be_bytes w32 (drop 12 octets)))
    else Some (V6 (from_be_bytes w128 octets)))
    else None

-- an address that octets can give: of 32 bits, or of 128 bits that map no IPv4 address
abbrev pub IsGiven : Ip → Type 0
IsGiven (V4 n) = n < 2 ^ 32
IsGiven (V6 n) = (n < 2 ^ 128) × (starts_with nat_eq (to_be_bytes w128 n) mapped_prefix ≡ false)
