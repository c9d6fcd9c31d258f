-- A resource held, as a line of JSON (RFC 8259) that has the fields of its record too, named as Istio's API names them. What is empty is
-- left out.
use Rattle.std.specs.Prelude.{ℕ, Bool, true, false, List, [], ◌∷◌, ◌++◌, Option, Some, map, codes}
use Rattle.std.specs.Option.{option_map}
use Rattle.hb_held.specs.Rows.{Content, address_content, policy_content, Row}
use Rattle.hb_records.specs.declared.address.AddressRecord.{AddressRecord}
use Rattle.hb_records.specs.declared.address.AddressRecord.TheVariants as records
use Rattle.hb_records.specs.declared.authorization.Action.{Action}
use Rattle.hb_records.specs.declared.authorization.Action.TheVariants.{Allow, Deny}
use Rattle.hb_records.specs.declared.authorization.Authorization.{Authorization}
use Rattle.hb_records.specs.declared.authorization.Reach.{Reach}
use Rattle.hb_records.specs.declared.authorization.Reach.TheVariants.{Global, Namespace, Selector}
use Rattle.hb_records.specs.declared.service.Service.{Service}
use Rattle.hb_records.specs.declared.workload.Workload.{Workload}
use Rattle.serde_json.specs.Data.{Data, string}
use Rattle.serde_json.specs.Written.{compact_text}
use Rattle.hb_lines.specs.AddressFields.{network_address_data, waypoint_data, port_data, services_member}
use Rattle.hb_lines.specs.Object.{text_member, array_member, object_of, with_member}
use Rattle.hb_lines.specs.Row.{row_data}
use Rattle.hb_lines.specs.RuleFields.{rule_data}
use Rattle.hb_lines.specs.Value.{ip_data}

-- whether a workload takes HBONE, and whether it is healthy
abbrev pub protocol_word : Bool → List ℕ
protocol_word true = codes "HBONE"
protocol_word false = codes "TCP"

abbrev pub status_word : Bool → List ℕ
status_word true = codes "Healthy"
status_word false = codes "Unhealthy"

-- the names of a workload
abbrev pub name_members : Workload → List (List ℕ × Option Data)
name_members w =
    (codes "hostname", text_member w.hostname) ∷
    (codes "name", text_member w.name) ∷
    (codes "namespace", text_member w.namespace) ∷
    (codes "network", text_member w.network) ∷
    (codes "node", text_member w.node) ∷
    (codes "serviceAccount", text_member w.service_account) ∷
    (codes "trustDomain", text_member w.trust_domain) ∷
    (codes "uid", text_member w.uid) ∷ []

-- what else is said of it
abbrev pub state_members : Workload → List (List ℕ × Option Data)
state_members w =
    (codes "addresses", array_member (map ip_data w.addresses)) ∷
    (codes "authorizationPolicies", array_member (map string w.authorization_policies)) ∷
    (codes "protocol", Some (string (protocol_word w.hbone))) ∷
    (codes "services", services_member w.services) ∷
    (codes "status", Some (string (status_word w.healthy))) ∷
    (codes "waypoint", option_map waypoint_data w.waypoint) ∷ []

abbrev pub workload_members : Workload → List (List ℕ × Option Data)
workload_members w = name_members w ++ state_members w

abbrev pub workload_fields : Workload → Data
workload_fields w = object_of (workload_members w)

abbrev pub service_members : Service → List (List ℕ × Option Data)
service_members s =
    (codes "addresses", array_member (map network_address_data s.addresses)) ∷
    (codes "hostname", text_member s.hostname) ∷
    (codes "name", text_member s.name) ∷
    (codes "namespace", text_member s.namespace) ∷
    (codes "ports", array_member (map port_data s.ports)) ∷
    (codes "waypoint", option_map waypoint_data s.waypoint) ∷ []

abbrev pub service_fields : Service → Data
service_fields s = object_of (service_members s)

-- an action and a scope, as Istio's enums spell them
abbrev pub action_name : Action → List ℕ
action_name Allow = codes "ALLOW"
action_name Deny = codes "DENY"

abbrev pub scope_name : Reach → List ℕ
scope_name Global = codes "GLOBAL"
scope_name Namespace = codes "NAMESPACE"
scope_name Selector = codes "WORKLOAD_SELECTOR"

abbrev pub policy_members : Authorization → List (List ℕ × Option Data)
policy_members p =
    (codes "action", Some (string (action_name p.action))) ∷
    (codes "name", text_member p.name) ∷
    (codes "namespace", text_member p.namespace) ∷
    (codes "rules", array_member (map rule_data p.rules)) ∷
    (codes "scope", Some (string (scope_name p.scope))) ∷ []

abbrev pub policy_fields : Authorization → Data
policy_fields p = object_of (policy_members p)

-- the fields of a record
abbrev pub record_fields : AddressRecord → Data
record_fields (records.Workload w) = workload_fields w
record_fields (records.Service s) = service_fields s

abbrev pub content_fields : Content → Data
content_fields (address_content a) = record_fields a
content_fields (policy_content p) = policy_fields p

-- a resource held, with the fields of its record
abbrev pub fields_data : Row → Data
fields_data row = with_member (codes "fields") (content_fields row.content) (row_data row)

-- its line, with its newline
unfoldable pub fields_text : Row → List ℕ
fields_text row = compact_text (fields_data row) ++ 10 ∷ []
