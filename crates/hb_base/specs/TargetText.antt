-- The text of an address with a port.
use Rattle.std.specs.Prelude.{◌≡◌, ◌<◌, ◌^◌, ◌++◌, decimal, ℕ, ◌&&◌, nat_le, nat_eq, if◌then◌else◌, List, length, drop, Option, Some, None, Result, Ok, Err, codes}
use Rattle.std.specs.List.{list_all, starts_with}
use Rattle.hb_base.specs.Decimal.{is_digit, decimal_value}
use Rattle.hb_base.specs.IpText.{v4_of, v6_of, ip_text}
use Rattle.hb_base.specs.Octets.{IsGiven}
use Rattle.hb_base.specs.Parts.{cut_first, cut_last}
use Rattle.hb_base.specs.declared.ip.Ip.{Ip}
use Rattle.hb_base.specs.declared.ip.Ip.TheVariants.{V4, V6}
use Rattle.hb_base.specs.declared.target.Target.{Target}
use Rattle.hb_base.specs.declared.target.BadTarget.{BadTarget}
use Rattle.hb_base.specs.declared.target.BadTarget.TheVariants.{NoPort, BadIp, BadPort}

-- one to five decimal digits, of value 1 to 65,535
abbrev pub port_of : List ℕ → Option ℕ
port_of text =
    if nat_le 1 (length text) && nat_le (length text) 5 && list_all is_digit text
    && nat_le 1 (decimal_value text) && nat_le (decimal_value text) 65535
    then Some (decimal_value text) else None

-- the address is looked at before the port
abbrev pub target_with : Option Ip → Option ℕ → Result Target BadTarget
target_with None port = Err BadIp
target_with (Some ip) None = Err BadPort
target_with (Some ip) (Some port) = Ok (record { ip = ip; port = port })

-- IPv4 text and port, cut at the last colon
abbrev pub plain_target : Option (List ℕ × List ℕ) → Result Target BadTarget
plain_target None = Err NoPort
plain_target (Some cut) = target_with (v4_of cut.0) (port_of cut.1)

-- IPv6 text and port, cut where the bracket closes: a colon follows
abbrev pub bracketed_target : Option (List ℕ × List ℕ) → Result Target BadTarget
bracketed_target None = Err NoPort
bracketed_target (Some cut) =
    if starts_with nat_eq cut.1 (codes ":") then target_with (v6_of cut.0) (port_of (drop 1 cut.1)) else Err NoPort

-- the target that this text spells, `IPv4:PORT` or `[IPv6]:PORT`, or why it spells none
unfoldable pub target_of : List ℕ → Result Target BadTarget
target_of text =
    if starts_with nat_eq text (codes "[") then bracketed_target (cut_first 93 (drop 1 text))
    else plain_target (cut_last 58 text)

-- an address and a port: an IPv6 address stands in brackets
abbrev pub with_port : Ip → List ℕ → List ℕ
with_port (V4 n) port = ip_text (V4 n) ++ (codes ":" ++ port)
with_port (V6 n) port = codes "[" ++ (ip_text (V6 n) ++ (codes "]:" ++ port))

-- how a target is written
unfoldable pub target_text : Target → List ℕ
target_text target = with_port target.ip (decimal target.port)

-- what is written of a target is read as it
abbrev pub ReadsWrittenTargets : Type 0
ReadsWrittenTargets = (target : Target) → IsGiven target.ip → 0 < target.port → target.port < 2 ^ 16
    → target_of (target_text target) ≡ Ok target
