-- How long the text of a target may be.
use Rattle.std.proofs.Common.{ℕ, ◌+◌, ◌*◌, ◌/◌, ◌%◌, ◌<◌, ◌≤◌, ◌^◌, List, [], ◌∷◌, ◌++◌, length, take, drop, flat_map, decimal, codes, arith, length-append, length-drop, length-take}
use Rattle.std.specs.Int.{w128, to_be_bytes}
use Rattle.std.specs.Net.Addr.{segments_of}
use Rattle.std.specs.Net.Text.{hex, groups_text, leading_zero_digits, hex_groups_text, longest_zero_run}
use Rattle.std.specs.Char.{digit_char}
use Rattle.std.proofs.lemmas.Fmt.{length-decimal-le}
use Rattle.hb_base.specs.IpText.{ip_text}
use Rattle.hb_base.specs.TargetText.{with_port}
use Rattle.hb_base.specs.declared.ip.Ip.{Ip}
use Rattle.hb_base.specs.declared.ip.Ip.TheVariants.{V4, V6}
use Rattle.hb_base.proofs.OctetLemmas.{octets_fit}

hex_short : (n : ℕ) → length (hex n) ≤ 4
unfolding hex
hex_short n = omega (
  arith,
  length-drop (leading_zero_digits n)
      (digit_char (n / 0x1000) ∷ digit_char (n / 0x100 % 16) ∷ digit_char (n / 0x10 % 16) ∷ digit_char (n % 16) ∷ []),
)

more_short : (ss : List ℕ) → length (flat_map (λ t. codes ":" ++ hex t) ss) ≤ 5 * length ss
more_short [] = omega arith
more_short (s ∷ ss) =
    omega (
      arith,
      length-append (codes ":" ++ hex s) (flat_map (λ t. codes ":" ++ hex t) ss),
      length-append (codes ":") (hex s),
      hex_short s,
      more_short ss,
    )

groups_short : (ss : List ℕ) → length (groups_text ss) ≤ 5 * length ss
groups_short [] = omega arith
groups_short (s ∷ ss) =
    omega (arith, length-append (hex s) (flat_map (λ t. codes ":" ++ hex t) ss), hex_short s, more_short ss)

compressed_short : (ss : List ℕ) → length (hex_groups_text ss) ≤ 10 * length ss + 2
unfolding hex_groups_text
compressed_short ss =
    let run = longest_zero_run ss in
    grind (
      arith,
      length-append (groups_text (take run.0 ss) ++ codes "::") (groups_text (drop (run.0 + run.1) ss)),
      length-append (groups_text (take run.0 ss)) (codes "::"),
      groups_short (take run.0 ss),
      groups_short (drop (run.0 + run.1) ss),
      length-take run.0 ss,
      length-drop (run.0 + run.1) ss,
      groups_short ss,
    )

dotted_short : (a b c d : ℕ) → a < 256 → b < 256 → c < 256 → d < 256
    → length (decimal a ++ codes "." ++ decimal b ++ codes "." ++ decimal c ++ codes "." ++ decimal d) ≤ 15
dotted_short a b c d fa fb fc fd =
    simp length-append (omega (
      arith,
      length-decimal-le 3 a (omega arith) (omega arith) (omega arith),
      length-decimal-le 3 b (omega arith) (omega arith) (omega arith),
      length-decimal-le 3 c (omega arith) (omega arith) (omega arith),
      length-decimal-le 3 d (omega arith) (omega arith) (omega arith),
    ))

ip_short : (ip : Ip) → length (ip_text ip) ≤ 100
unfolding ip_text
ip_short (V4 n) =
    let f = octets_fit 4 n in
    let short = dotted_short _ _ _ _ (f 0) (f 1) (f 2) (f 3) in
    omega (arith, short)
ip_short (V6 n) = omega (arith, compressed_short (segments_of (to_be_bytes w128 n)))

-- an address and a port of 16 bits
pub target_short : (ip : Ip) (port : ℕ) → port < 2 ^ 16 → length (with_port ip (decimal port)) ≤ 120
target_short (V4 n) port fits =
    let digits : length (decimal port) ≤ 5 = length-decimal-le 5 port (omega arith) (omega arith) (omega arith) in
    simp length-append (omega (arith, ip_short (V4 n), digits))
target_short (V6 n) port fits =
    let digits : length (decimal port) ≤ 5 = length-decimal-le 5 port (omega arith) (omega arith) (omega arith) in
    simp length-append (omega (arith, ip_short (V6 n), digits))
