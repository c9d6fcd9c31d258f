-- Names are text.
use Rattle.std.proofs.Common.{◌≡◌, ◌<◌, ℕ, List, true, not, nat_eq, get_or, length, arith}
use Rattle.std.specs.List.{All, list_all}
use Rattle.std.specs.Str.{IsUtf8}
use Rattle.std.proofs.lemmas.Bool.Decides.{nat_tests}
use Rattle.std.proofs.lemmas.Str.{IsUtf8-from_ascii}
use Rattle.std.proofs.lemmas.Str.Ascii.{IsAscii-from_all}
use Rattle.std.proofs.lemmas.List.Sums.{AllPass-from_list_all}
use Rattle.hb_base.proofs.TestLemmas.{both}
use Rattle.hb_base.specs.IdentityText.{is_name_byte, is_name}

name_byte_is_ascii : (b : ℕ) → is_name_byte b ≡ true → b < 128
name_byte_is_ascii b h = grind (arith, nat_tests)

all_ascii : (text : List ℕ) → list_all is_name_byte text ≡ true → All (λ b. b < 128) text
all_ascii text h = λ k d below. name_byte_is_ascii (get_or text k d) (AllPass-from_list_all is_name_byte text h k d below)

pub name_bytes : (text : List ℕ) → is_name text ≡ true → list_all is_name_byte text ≡ true
name_bytes text h = (both (not (nat_eq (length text) 0)) (list_all is_name_byte text) h).1

pub IsUtf8-name : (text : List ℕ) → is_name text ≡ true → IsUtf8 text
IsUtf8-name text h = IsUtf8-from_ascii text (IsAscii-from_all text (all_ascii text (name_bytes text h)))
