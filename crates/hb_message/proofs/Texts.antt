-- A string field is refused exactly where it isn't UTF-8.
use Rattle.std.proofs.Common.{◌≡◌, ℕ, List, Bool, true, false, Ok, Err, refl}
use Rattle.std.specs.Str.{IsUtf8, is_utf8}
use Rattle.std.proofs.lemmas.Str.{IsUtf8-from_is_utf8, is_utf8-from_IsUtf8}
use Rattle.hb_message.specs.Reading.{text_by}

pub text_taken : {F : Type 0} (utf8 : ℕ → F) (field : ℕ) (bytes : List ℕ) → IsUtf8 bytes → text_by utf8 field bytes ≡ Ok bytes
text_taken utf8 field bytes is = rw (is_utf8-from_IsUtf8 bytes is) refl

fails : (bytes : List ℕ) (test : Bool) → is_utf8 bytes ≡ test → (IsUtf8 bytes → ⊥) → test ≡ false
fails bytes true passes not_utf8 = absurd (not_utf8 (IsUtf8-from_is_utf8 bytes passes))
fails bytes false passes not_utf8 = refl

pub text_refused : {F : Type 0} (utf8 : ℕ → F) (field : ℕ) (bytes : List ℕ) → (IsUtf8 bytes → ⊥)
    → text_by utf8 field bytes ≡ Err (utf8 field)
text_refused utf8 field bytes not_utf8 = rw (fails bytes (is_utf8 bytes) refl not_utf8) refl
