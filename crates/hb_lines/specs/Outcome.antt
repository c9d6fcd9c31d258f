-- What a response did, as a line of JSON (RFC 8259), its keys in byte order.
use Rattle.std.specs.Prelude.{ℕ, List, [], ◌∷◌, ◌++◌, map, codes}
use Rattle.hb_disco.specs.declared.kind.Kind.{Kind}
use Rattle.hb_disco.specs.declared.kind.Kind.TheVariants.{Address, Authorization}
use Rattle.hb_held.specs.declared.outcome.Outcome.{Outcome}
use Rattle.hb_held.specs.declared.outcome.Refusal.{Refusal}
use Rattle.serde_json.specs.Data.{Data, number, unsigned, string, array, object, member, no_members}
use Rattle.serde_json.specs.View.{items_of}
use Rattle.serde_json.specs.Written.{compact_text}
use Rattle.hb_lines.specs.Why.{why_text}

-- the word of a kind
abbrev pub kind_word : Kind → List ℕ
kind_word Address = codes "address"
kind_word Authorization = codes "authorization"

-- a refused resource: its name, and why
abbrev pub refusal_data : Refusal → Data
refusal_data r = object (member (codes "name") (string r.name) (member (codes "why") (string (why_text r.why)) no_members))

-- a response: how many resources it applied, its kind and nonce, what was refused in order, and how many names it removed
abbrev pub outcome_data : Kind → List ℕ → Outcome → Data
outcome_data kind nonce o =
    object (member (codes "applied") (number (unsigned o.applied))
    (member (codes "kind") (string (kind_word kind))
    (member (codes "nonce") (string nonce)
    (member (codes "refused") (array (items_of (map refusal_data o.refused)))
    (member (codes "removed") (number (unsigned o.removed)) no_members)))))

-- the line of a response, with its newline
unfoldable pub outcome_text : Kind → List ℕ → Outcome → List ℕ
outcome_text kind nonce o = compact_text (outcome_data kind nonce o) ++ 10 ∷ []
