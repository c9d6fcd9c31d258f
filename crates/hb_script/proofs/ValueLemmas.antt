-- The JSON value of a row.
use Rattle.std.proofs.Common.{◌≡◌, ℕ, Bool, true, false, List, Some, None, Ok, Err, refl}
use Rattle.std.specs.Str.{IsUtf8, is_utf8}
use Rattle.std.proofs.lemmas.Str.{IsUtf8-from_is_utf8}
use Rattle.hb_base.proofs.Utf8Test.{text_of-utf8}
use Rattle.serde_json.specs.Data.{Data}
use Rattle.serde_json.specs.Read.{read}
use Rattle.hb_script.specs.declared.fault.ScriptWhy.TheVariants.{NotJson}
use Rattle.hb_script.specs.Form.{value_of}

-- JSON in UTF-8
pub is_value : (row : List ℕ) (d : Data) → IsUtf8 row → read row ≡ Some d → value_of row ≡ Ok d
is_value row d utf8 is = rw (text_of-utf8 row utf8, is) refl

no_value_at : (row : List ℕ) (test : Bool) → is_utf8 row ≡ test → (IsUtf8 row → read row ≡ None) → value_of row ≡ Err NotJson
no_value_at row true is none = rw (text_of-utf8 row (IsUtf8-from_is_utf8 row is), none (IsUtf8-from_is_utf8 row is)) refl
no_value_at row false is none = rw is refl

-- no UTF-8, or no JSON
pub no_value : (row : List ℕ) → (IsUtf8 row → read row ≡ None) → value_of row ≡ Err NotJson
no_value row none = no_value_at row (is_utf8 row) refl none
