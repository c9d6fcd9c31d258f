-- Names among the words of a line.
use Rattle.std.specs.Prelude.{ℕ, Bool, ◌==◌, ◌&&◌, not, nat_le, if◌then◌else◌, List, ◌∷◌, ◌++◌, length}
use Rattle.std.specs.List.{list_all}
use Rattle.serde_json.specs.Data.{string}
use Rattle.serde_json.specs.Written.{compact_text}

-- an octet of a name that stands as it is: visible ASCII but for a quote and a backslash
abbrev pub is_plain : ℕ → Bool
is_plain b = nat_le 33 b && nat_le b 126 && not (b == 34) && not (b == 92)

-- a name that isn't empty and has plain octets alone
abbrev pub is_plain_name : List ℕ → Bool
is_plain_name name = not (length name == 0) && list_all is_plain name

-- it stands as it is, any other as a string of JSON (RFC 8259 section 7)
abbrev pub name_text : List ℕ → List ℕ
name_text name = if is_plain_name name then name else compact_text (string name)

-- the name of a policy: those of its namespace and of itself, joined by a slash
abbrev pub policy_name : List ℕ → List ℕ → List ℕ
policy_name namespace name = namespace ++ 47 ∷ name
