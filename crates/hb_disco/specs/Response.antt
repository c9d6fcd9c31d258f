-- Delta discovery responses (Envoy xDS protocol, "Incremental xDS"; proto3 messages).
use Rattle.std.specs.Prelude.{ℕ, ◌==◌, List, [], ◌∷◌, ◌++◌, Option, Some, None, Result, Ok, Err, if◌then◌else◌}
use Rattle.std.specs.Str.{bytes_eq}
use Rattle.hb_wire.specs.Field.{Content}
use Rattle.hb_wire.specs.Message.{and_then}
use Rattle.hb_message.specs.Reading.{read_into, of_span, text_by}
use Rattle.hb_disco.specs.declared.response.ResponseFault.{ResponseFault}
use Rattle.hb_disco.specs.declared.response.ResponseFault.TheVariants.{Wire, Utf8, UnknownType}
use Rattle.hb_disco.specs.declared.kind.Kind.{Kind}
use Rattle.hb_disco.specs.declared.kind.Kind.TheVariants.{Address, Authorization}
use Rattle.hb_disco.specs.declared.response.Resource.{Resource}
use Rattle.hb_disco.specs.declared.response.Any.{Any}
use Rattle.hb_disco.specs.declared.response.ResourceParts.{ResourceParts}
use Rattle.hb_disco.specs.declared.response.Response.{Response}
use Rattle.hb_disco.specs.declared.response.Parts.{Parts}
use Rattle.hb_disco.specs.Kind.{type_url}

-- a string field
abbrev pub text_in : ℕ → List ℕ → Result (List ℕ) ResponseFault
text_in field bytes = text_by Utf8 field bytes

-- the kind whose type URL these bytes are, if one has it
abbrev pub kind_of_url : List ℕ → Option Kind
kind_of_url url =
    if bytes_eq url (type_url Address) then Some Address
    else (if bytes_eq url (type_url Authorization) then Some Authorization else None)

abbrev pub kind_or : Option Kind → Result Kind ResponseFault
kind_or (Some kind) = Ok kind
kind_or None = Err UnknownType

-- Any: type_url 1, value 2
abbrev pub any_span : Any → ℕ → List ℕ → Result Any ResponseFault
any_span a number bytes =
    if number == 1 then and_then (text_in 1 bytes) (λ t. Ok (record a { type_url = t }))
    else (if number == 2 then Ok (record a { value = bytes }) else Ok a)

abbrev pub any_merged : Any → Content → Result Any ResponseFault
any_merged a f = of_span a f.value (λ bytes. any_span a f.number bytes)

-- Resource: version 1, resource 2, an Any whose occurrences merge, name 3
abbrev pub resource_span : ResourceParts → ℕ → ℕ → List ℕ → Result ResourceParts ResponseFault
resource_span r number at bytes =
    if number == 1 then and_then (text_in 1 bytes) (λ t. Ok (record r { version = t }))
    else (if number == 2 then and_then (read_into any_merged Wire r.any at bytes)
    (λ a. Ok (record r { any = a }))
    else (if number == 3 then and_then (text_in 3 bytes) (λ t. Ok (record r { name = t })) else Ok r))

abbrev pub resource_merged : ResourceParts → Content → Result ResourceParts ResponseFault
resource_merged r f = of_span r f.value (λ bytes. resource_span r f.number f.at bytes)

abbrev pub no_resource : ResourceParts
no_resource = record { name = []; version = []; any = record { type_url = []; value = [] } }

-- the resource of these bytes at a place
unfoldable pub resource_in : ℕ → List ℕ → Result Resource ResponseFault
resource_in at bytes = and_then (read_into resource_merged Wire no_resource at bytes)
    (λ r. Ok (record { name = r.name; version = r.version; type_url = r.any.type_url; value = r.any.value }))

-- DeltaDiscoveryResponse: system_version_info 1, which is only checked, resources 2, type_url 4, nonce 5, removed_resources 6
abbrev pub response_span : Parts → ℕ → ℕ → List ℕ → Result Parts ResponseFault
response_span p number at bytes =
    if number == 1 then and_then (text_in 1 bytes) (λ t. Ok p)
    else (if number == 2 then and_then (resource_in at bytes) (λ r. Ok (record p { resources = p.resources ++ r ∷ [] }))
    else (if number == 4 then and_then (text_in 4 bytes) (λ t. Ok (record p { kind = kind_of_url t }))
    else (if number == 5 then and_then (text_in 5 bytes) (λ t. Ok (record p { nonce = t }))
    else (if number == 6 then and_then (text_in 6 bytes) (λ t. Ok (record p { removed = p.removed ++ t ∷ [] })) else Ok p))))

abbrev pub response_merged : Parts → Content → Result Parts ResponseFault
response_merged p f = of_span p f.value (λ bytes. response_span p f.number f.at bytes)

abbrev pub no_parts : Parts
no_parts = record { resources = []; kind = None; nonce = []; removed = [] }

abbrev pub response_of_parts : Parts → Result Response ResponseFault
response_of_parts p = and_then (kind_or p.kind)
    (λ kind. Ok (record { kind = kind; resources = p.resources; removed = p.removed; nonce = p.nonce }))

-- the response that these bytes are; its type is looked at last
unfoldable pub response_of : List ℕ → Result Response ResponseFault
response_of bytes = and_then (read_into response_merged Wire no_parts 0 bytes) response_of_parts
