-- A resource held, as a line of JSON (RFC 8259), its keys in byte order.
use Rattle.std.specs.Prelude.{ℕ, List, [], ◌∷◌, ◌++◌, map, codes}
use Rattle.hb_canonical.specs.Address.{canonical_address}
use Rattle.hb_canonical.specs.Authorization.{canonical_authorization}
use Rattle.hb_held.specs.Rows.{Content, address_content, policy_content, Row}
use Rattle.hb_records.specs.declared.address.AddressRecord.{AddressRecord}
use Rattle.hb_records.specs.declared.address.AddressRecord.TheVariants as records
use Rattle.hb_records.specs.declared.authorization.Action.{Action}
use Rattle.hb_records.specs.declared.authorization.Action.TheVariants.{Allow, Deny}
use Rattle.hb_records.specs.declared.authorization.Authorization.{Authorization}
use Rattle.hb_records.specs.declared.authorization.Reach.{Reach}
use Rattle.hb_records.specs.declared.authorization.Reach.TheVariants.{Global, Namespace, Selector}
use Rattle.hb_records.specs.declared.service.Service.{Service}
use Rattle.hb_records.specs.declared.workload.Workload.{Workload}
use Rattle.hex.specs.Hex.{encode_lower}
use Rattle.serde_json.specs.Data.{Data, string, array, object, member, no_members}
use Rattle.serde_json.specs.View.{items_of}
use Rattle.serde_json.specs.Written.{compact_text}
use Rattle.hb_lines.specs.Value.{ip_data, network_data}

-- the word of an action, and that of a scope
abbrev pub action_word : Action → List ℕ
action_word Allow = codes "allow"
action_word Deny = codes "deny"

abbrev pub scope_word : Reach → List ℕ
scope_word Global = codes "global"
scope_word Namespace = codes "namespace"
scope_word Selector = codes "selector"

-- bytes are told in lower-case hexadecimal digits
abbrev pub hex_data : List ℕ → Data
hex_data bytes = string (encode_lower bytes)

-- a workload: its addresses and node, under the name, the version and the record of its resource
abbrev pub workload_data : Data → Data → Data → Workload → Data
workload_data name version spelled w =
    object (member (codes "addresses") (array (items_of (map ip_data w.addresses)))
    (member (codes "kind") (string (codes "workload"))
    (member (codes "name") name
    (member (codes "node") (string w.node)
    (member (codes "record") spelled
    (member (codes "version") version no_members))))))

-- a service: its addresses in all its networks, under the name, the version and the record of its resource
abbrev pub service_data : Data → Data → Data → Service → Data
service_data name version spelled s =
    object (member (codes "addresses") (array (items_of (map network_data s.addresses)))
    (member (codes "kind") (string (codes "service"))
    (member (codes "name") name
    (member (codes "record") spelled
    (member (codes "version") version no_members)))))

-- an address record under its resource's name: its record is its canonical spelling
abbrev pub address_data : List ℕ → List ℕ → AddressRecord → Data
address_data name version (records.Workload w) =
    workload_data (string name) (string version) (hex_data (canonical_address (records.Workload w))) w
address_data name version (records.Service s) =
    service_data (string name) (string version) (hex_data (canonical_address (records.Service s))) s

-- a policy under its resource's name: its action and its scope, and its canonical spelling
abbrev pub policy_data : List ℕ → List ℕ → Authorization → Data
policy_data name version p =
    object (member (codes "action") (string (action_word p.action))
    (member (codes "kind") (string (codes "policy"))
    (member (codes "name") (string name)
    (member (codes "record") (hex_data (canonical_authorization p))
    (member (codes "scope") (string (scope_word p.scope))
    (member (codes "version") (string version) no_members))))))

-- a resource held
abbrev pub content_data : List ℕ → List ℕ → Content → Data
content_data name version (address_content a) = address_data name version a
content_data name version (policy_content p) = policy_data name version p

abbrev pub row_data : Row → Data
row_data row = content_data row.name row.version row.content

-- the line of a resource held, with its newline
unfoldable pub row_text : Row → List ℕ
row_text row = compact_text (row_data row) ++ 10 ∷ []
