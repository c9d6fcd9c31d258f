-- The text of an address is UTF-8.
use Rattle.std.proofs.Common.{ℕ, ◌<◌, inl, inr, List, All, arith}
use Rattle.std.specs.Int.{to_be_bytes, w32, w128}
use Rattle.std.specs.Net.Addr.{segments_of}
use Rattle.std.specs.Str.{IsUtf8}
use Rattle.std.proofs.NetLemmas.Alphabet.{IsDigitOrDot, IsHexOrColon, All-ipv4_text, All-hex_groups_text}
use Rattle.std.proofs.lemmas.Str.{IsUtf8-from_ascii}
use Rattle.std.proofs.lemmas.Str.Ascii.{IsAscii-from_all}
use Rattle.hb_base.specs.IpText.{ip_text}
use Rattle.hb_base.specs.declared.ip.Ip.{Ip}
use Rattle.hb_base.specs.declared.ip.Ip.TheVariants.{V4, V6}
use Rattle.hb_base.proofs.OctetLemmas.{octets_fit, groups_fit}

digit_or_dot : (c : ℕ) → IsDigitOrDot c → c < 128
digit_or_dot c (inl digit) = omega (arith, digit)
digit_or_dot c (inr dot) = omega (arith, dot)

hex_or_colon : (c : ℕ) → IsHexOrColon c → c < 128
hex_or_colon c (inl digit) = omega (arith, digit)
hex_or_colon c (inr letter) = omega (arith, letter)

all_below : (P : ℕ → Type 0) → ((c : ℕ) → P c → c < 128) → (text : List ℕ) → All P text → IsUtf8 text
all_below P below text h = IsUtf8-from_ascii text (IsAscii-from_all text (λ k d within. below _ (h k d within)))

pub ip_text_is_utf8 : (ip : Ip) → IsUtf8 (ip_text ip)
unfolding ip_text
ip_text_is_utf8 (V4 n) = all_below IsDigitOrDot digit_or_dot _ (All-ipv4_text (to_be_bytes w32 n) (octets_fit 4 n))
ip_text_is_utf8 (V6 n) =
    all_below IsHexOrColon hex_or_colon _
    (All-hex_groups_text (segments_of (to_be_bytes w128 n)) (groups_fit (to_be_bytes w128 n) (octets_fit 16 n)))
