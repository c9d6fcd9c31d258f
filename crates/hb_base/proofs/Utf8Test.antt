-- Bytes are text exactly where the test for UTF-8 passes.
use Rattle.std.proofs.Common.{◌≡◌, ℕ, List, Bool, true, false, Some, None, refl}
use Rattle.std.specs.Str.{IsUtf8, is_utf8}
use Rattle.std.proofs.lemmas.Str.{IsUtf8-from_is_utf8, is_utf8-from_IsUtf8}
use Rattle.hb_base.specs.Utf8.{text_of}

-- UTF-8 is its own text
pub text_of-utf8 : (bytes : List ℕ) → IsUtf8 bytes → text_of bytes ≡ Some bytes
text_of-utf8 bytes utf8 = rw (is_utf8-from_IsUtf8 bytes utf8) refl

refused : (bytes : List ℕ) (test : Bool) → is_utf8 bytes ≡ test → (IsUtf8 bytes → ⊥) → test ≡ false
refused bytes true passes not_utf8 = absurd (not_utf8 (IsUtf8-from_is_utf8 bytes passes))
refused bytes false passes not_utf8 = refl

-- other bytes are no text
pub text_of-other : (bytes : List ℕ) → (IsUtf8 bytes → ⊥) → text_of bytes ≡ None
text_of-other bytes not_utf8 = rw (refused bytes (is_utf8 bytes) refl not_utf8) refl
