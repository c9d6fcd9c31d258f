-- What the bytes of a request are by the rules of Protocol Buffers alone, said without a writer (hb_wire has the relation).
use Rattle.std.specs.Prelude.{◌≡◌, ℕ, ◌==◌, ◌<◌, ◌^◌, List, [], ◌∷◌, ◌++◌, map, length, Option, Some, None, if◌then◌else◌}
use Rattle.hb_wire.specs.Field.{Content, Value, varint, span}
use Rattle.hb_wire.specs.Spelling.{SpellsMessage}
use Rattle.hb_disco.specs.Kind.{type_url}
use Rattle.hb_disco.specs.Request.{node_of, with_versions, entry_of, first_of, status_of, answer_of}
use Rattle.hb_disco.specs.declared.kind.Kind.{Kind}
use Rattle.hb_disco.specs.declared.request.NameVersion.{NameVersion}

-- bytes in memory are fewer than 2 ^ 64
abbrev pub IsInMemory : List ℕ → Type 0
IsInMemory bytes = length bytes < 2 ^ 64

-- wherever the bytes stand, they spell these fields, each a number and a value
abbrev pub AreFields : List ℕ → List (ℕ × Value) → Type 0
AreFields bytes fields = (at : ℕ) → (placed : List Content) × SpellsMessage at bytes placed
    × (map (λ f. (f.number, f.value)) placed ≡ fields)

-- a string that isn't the default
abbrev pub text_fields : ℕ → List ℕ → List (ℕ × Value)
text_fields number text = if length text == 0 then [] else (number, span text) ∷ []

-- a submessage, where it is there
abbrev pub detail_fields : Option (List ℕ) → List (ℕ × Value)
detail_fields None = []
detail_fields (Some name) = (7, span (status_of name)) ∷ []

-- a first request is its node, its type URL, and an entry for each name of the map of versions
abbrev pub FirstIsRead : Type 0
FirstIsRead = (id : List ℕ) (kind : Kind) (versions : List NameVersion) → IsInMemory (first_of id kind versions)
    → AreFields (first_of id kind versions)
    ((1, span (node_of id)) ∷ (2, span (type_url kind)) ∷ map (λ e. (5, span (entry_of e))) (with_versions [] versions))

-- an answer is its type URL, its nonce, and why the response is refused
abbrev pub AnswerIsRead : Type 0
AnswerIsRead = (kind : Kind) (nonce : List ℕ) (refused : Option (List ℕ)) → IsInMemory (answer_of kind nonce refused)
    → AreFields (answer_of kind nonce refused) ((2, span (type_url kind)) ∷ text_fields 6 nonce ++ detail_fields refused)

-- a node is its id
abbrev pub NodeIsRead : Type 0
NodeIsRead = (id : List ℕ) → IsInMemory id → AreFields (node_of id) (text_fields 1 id)

-- an entry of the map is its name and its version
abbrev pub EntryIsRead : Type 0
EntryIsRead = (e : List ℕ × List ℕ) → IsInMemory (entry_of e) → AreFields (entry_of e) (text_fields 1 e.0 ++ (2, span e.1) ∷ [])

-- why a response is refused is the code 3 and the name
abbrev pub StatusIsRead : Type 0
StatusIsRead = (name : List ℕ) → IsInMemory name → AreFields (status_of name) ((1, varint 3) ∷ text_fields 2 name)
