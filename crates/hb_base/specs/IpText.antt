-- The text of an address.
use Rattle.std.specs.Prelude.{◌≡◌, ◌↔◌, ◌⊎◌, ℕ, List, Option, Some}
use Rattle.std.specs.Int.{to_be_bytes, w32, w128}
use Rattle.std.specs.Net.Addr.{segments_of, octets_of}
use Rattle.std.specs.Net.Grammar.{IsDotted, IsColonHex}
use Rattle.std.specs.Net.Reader.{read_ipv4, read_ipv6, whole_value}
use Rattle.std.specs.Net.Text.{ipv4_text, hex_groups_text}
use Rattle.std.specs.Option.{option_or, option_and_then}
use Rattle.hb_base.specs.Octets.{ip_of_octets, IsGiven}
use Rattle.hb_base.specs.declared.ip.Ip.{Ip}
use Rattle.hb_base.specs.declared.ip.Ip.TheVariants.{V4, V6}

-- IPv4 text spells four octets: decimal numbers below 256 without leading zeros, joined by dots. IPv6 text spells eight
-- groups, and so sixteen octets: groups of one to four hexadecimal digits of either case, joined by colons; `::` may stand
-- once for one or more zero groups, and IPv4 text for the last two groups (RFC 4291 section 2.2).
abbrev pub SpellsOctets : List ℕ → List ℕ → Type 0
SpellsOctets text octets =
    IsDotted text octets ⊎ ((groups : List ℕ) × IsColonHex text groups × (octets ≡ octets_of groups))

-- the text spells this address
abbrev pub SpellsIp : List ℕ → Ip → Type 0
SpellsIp text ip = (octets : List ℕ) × SpellsOctets text octets × (ip_of_octets octets ≡ Some ip)

-- the address of IPv4 text
unfoldable pub v4_of : List ℕ → Option Ip
v4_of text = option_and_then ip_of_octets (whole_value (read_ipv4 text))

-- the address of IPv6 text
unfoldable pub v6_of : List ℕ → Option Ip
v6_of text = option_and_then (λ groups. ip_of_octets (octets_of groups)) (whole_value (read_ipv6 text))

-- the address that this text spells
unfoldable pub ip_of : List ℕ → Option Ip
ip_of text = option_or (v4_of text) (v6_of text)

-- How an address is written. IPv4: four octets in decimal, joined by dots. IPv6, by RFC 5952 section 4: groups in lower
-- case without leading zeros, the first longest run of two or more zero groups as `::`; always hexadecimal groups.
unfoldable pub ip_text : Ip → List ℕ
ip_text (V4 n) = ipv4_text (to_be_bytes w32 n)
ip_text (V6 n) = hex_groups_text (segments_of (to_be_bytes w128 n))

-- a text is read as an address exactly where it spells it
abbrev pub ReadsSpelledAddressesAlone : Type 0
ReadsSpelledAddressesAlone = (text : List ℕ) (ip : Ip) → (ip_of text ≡ Some ip) ↔ SpellsIp text ip

-- what is written of an address is read as it
abbrev pub ReadsWrittenAddresses : Type 0
ReadsWrittenAddresses = (ip : Ip) → IsGiven ip → ip_of (ip_text ip) ≡ Some ip
