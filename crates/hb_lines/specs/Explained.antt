-- What a policy says of a connection, as a line of JSON (RFC 8259), its keys in byte order.
use Rattle.std.specs.Prelude.{ℕ, true, false, List, [], ◌∷◌, ◌++◌, Option, Some, None, codes}
use Rattle.hb_held.specs.Endpoints.{joined}
use Rattle.hb_records.specs.declared.authorization.Authorization.{Authorization}
use Rattle.serde_json.specs.Data.{Data, boolean, number, unsigned, string, object, member, no_members}
use Rattle.serde_json.specs.Written.{compact_text}
use Rattle.hb_lines.specs.Row.{action_word}

-- a policy, by the name `namespace/name`: its action, whether it fires, and by which of its rules
abbrev pub explained_data : Authorization → Option ℕ → Data
explained_data p (Some rule) =
    object (member (codes "action") (string (action_word p.action))
    (member (codes "fires") (boolean true)
    (member (codes "policy") (string (joined p.namespace p.name))
    (member (codes "rule") (number (unsigned rule)) no_members))))
explained_data p None =
    object (member (codes "action") (string (action_word p.action))
    (member (codes "fires") (boolean false)
    (member (codes "policy") (string (joined p.namespace p.name)) no_members)))

-- its line, with its newline
unfoldable pub explained_text : Authorization → Option ℕ → List ℕ
explained_text p rule = compact_text (explained_data p rule) ++ 10 ∷ []
