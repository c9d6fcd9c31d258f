-- DeltaDiscoveryRequest (Envoy xDS protocol, "Incremental xDS"), spelled in fields by rising number. A string that is
-- empty is the default, which isn't written; a submessage that is there is written, empty too (proto3).
use Rattle.std.specs.Prelude.{ℕ, ◌==◌, List, [], ◌∷◌, ◌++◌, length, Option, Some, None, if◌then◌else◌}
use Rattle.std.specs.BTreeMap.{insert_entry}
use Rattle.std.specs.Cmp.Lexicographic.{slice_cmp}
use Rattle.std.specs.List.{flat_map}
use Rattle.std.specs.Ordering.{nat_cmp}
use Rattle.hb_wire.specs.Writing.{number_of, bytes_of}
use Rattle.hb_disco.specs.Kind.{type_url}
use Rattle.hb_disco.specs.declared.kind.Kind.{Kind}
use Rattle.hb_disco.specs.declared.request.NameVersion.{NameVersion}

-- a string as a field
abbrev pub text_of : ℕ → List ℕ → List ℕ
text_of number text = if length text == 0 then [] else bytes_of number text

-- Node: id 1
abbrev pub node_of : List ℕ → List ℕ
node_of id = text_of 1 id

-- the map of names to versions that a list tells, by the names' bytes: a later equal name replaces
abbrev pub with_versions : List (List ℕ × List ℕ) → List NameVersion → List (List ℕ × List ℕ)
with_versions map [] = map
with_versions map (v ∷ vs) = with_versions (insert_entry (slice_cmp nat_cmp) map v.name v.version) vs

-- an entry of the map: the name 1, and the version 2, which is always written (Protocol Buffers encoding guide, "Maps")
abbrev pub entry_of : List ℕ × List ℕ → List ℕ
entry_of e = text_of 1 e.0 ++ bytes_of 2 e.1

-- initial_resource_versions 5, one entry a name
abbrev pub versions_of : List NameVersion → List ℕ
versions_of versions = flat_map (λ e. bytes_of 5 (entry_of e)) (with_versions [] versions)

-- the first request for a kind: node 1, type_url 2, initial_resource_versions 5
abbrev pub first_of : List ℕ → Kind → List NameVersion → List ℕ
first_of id kind versions = bytes_of 1 (node_of id) ++ (bytes_of 2 (type_url kind) ++ versions_of versions)

-- google.rpc.Status of a refused name: code 1, which is 3, INVALID_ARGUMENT, and the name as message 2
abbrev pub status_of : List ℕ → List ℕ
status_of name = number_of 1 3 ++ text_of 2 name

-- error_detail 7, where a name is refused
abbrev pub detail_of : Option (List ℕ) → List ℕ
detail_of None = []
detail_of (Some name) = bytes_of 7 (status_of name)

-- the answer to a response: type_url 2, response_nonce 6, error_detail 7
abbrev pub answer_of : Kind → List ℕ → Option (List ℕ) → List ℕ
answer_of kind nonce refused = bytes_of 2 (type_url kind) ++ (text_of 6 nonce ++ detail_of refused)
