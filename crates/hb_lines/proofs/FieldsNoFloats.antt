-- No line with the fields of a record has a float.
use Rattle.std.proofs.Common.{◌≡◌, ℕ, ◌==◌, List, [], ◌∷◌, Option, Some, None, Bool, true, false, if◌then◌else◌, Ordering, Less, Equal, Greater, refl, map, codes}
use Rattle.std.specs.Cmp.Lexicographic.{slice_cmp}
use Rattle.std.specs.List.{fold}
use Rattle.std.specs.Option.{option_map}
use Rattle.std.specs.Ordering.{nat_cmp, match_ordering}
use Rattle.std.proofs.lemmas.Bool.{or_parts, or_from}
use Rattle.serde_json.specs.Data.{Data, number, unsigned, string, array, object, Members, no_members, member, put}
use Rattle.serde_json.specs.View.{items_of}
use Rattle.serde_json.specs.Written.{has_float, members_have_float}
use Rattle.hb_held.specs.Rows.{Content, address_content, policy_content, Row}
use Rattle.hb_records.specs.declared.address.AddressRecord.{AddressRecord}
use Rattle.hb_records.specs.declared.address.AddressRecord.TheVariants as records
use Rattle.hb_records.specs.declared.authorization.Authorization.{Authorization}
use Rattle.hb_records.specs.declared.gateway.GatewayAddress.{GatewayAddress}
use Rattle.hb_records.specs.declared.port.Port.{Port}
use Rattle.hb_records.specs.declared.port.ServicePorts.{ServicePorts}
use Rattle.hb_records.specs.declared.rule.Clause.{Clause}
use Rattle.hb_records.specs.declared.rule.Match.{Match}
use Rattle.hb_records.specs.declared.rule.Rule.{Rule}
use Rattle.hb_records.specs.declared.service.Service.{Service}
use Rattle.hb_records.specs.declared.workload.Workload.{Workload}
use Rattle.hb_lines.specs.AddressFields.{network_address_data, waypoint_members, waypoint_data, port_members, port_data, put_service, services_member}
use Rattle.hb_lines.specs.Fields.{workload_members, workload_fields, service_members, service_fields, policy_members, policy_fields, record_fields, content_fields, fields_data}
use Rattle.hb_lines.specs.Object.{text_member, array_member, number_member, put_some, put_members, object_of, with_member}
use Rattle.hb_lines.specs.Row.{row_data}
use Rattle.hb_lines.specs.RuleFields.{string_match_data, cidr_data, match_members, match_data, clause_data, rule_data}
use Rattle.hb_lines.specs.Value.{ip_data, number_data}
use Rattle.hb_lines.proofs.NoFloats.{items_without, row_without}

-- the value of a member, where it has one, has no float
abbrev IsWithout : Option Data → Type 0
IsWithout None = Unit {0}
IsWithout (Some d) = has_float d ≡ false

by_order : (o : Ordering) (a b c : Members) → members_have_float a ≡ false → members_have_float b ≡ false → members_have_float c ≡ false
    → members_have_float (match_ordering o a b c) ≡ false
by_order Less a b c p q r = p
by_order Equal a b c p q r = q
by_order Greater a b c p q r = r

put_without : (k : List ℕ) (d : Data) (ms : Members) → has_float d ≡ false → members_have_float ms ≡ false → members_have_float (put k d ms) ≡ false
put_without k d no_members p q = or_from (has_float d) false p refl
put_without k d (member l e ms) p q =
    let parts = or_parts (has_float e) (members_have_float ms) q in
    by_order (slice_cmp nat_cmp k l) (member k d (member l e ms)) (member l d ms) (member l e (put k d ms))
    (or_from (has_float d) _ p q)
    (or_from (has_float d) _ p parts.1)
    (or_from (has_float e) _ parts.0 (put_without k d ms p parts.1))

put_some_without : (k : List ℕ) (v : Option Data) (ms : Members) → IsWithout v → members_have_float ms ≡ false
    → members_have_float (put_some k v ms) ≡ false
unfolding put_some
put_some_without k None ms p q = q
put_some_without k (Some d) ms p q = put_without k d ms p q

-- none of these values has a float
abbrev AreWithout : List (List ℕ × Option Data) → Type 0
AreWithout [] = Unit {0}
AreWithout (m ∷ ms) = IsWithout m.1 × AreWithout ms

members_without : (ms : List (List ℕ × Option Data)) (o : Members) → AreWithout ms → members_have_float o ≡ false
    → members_have_float (put_members o ms) ≡ false
members_without [] o h q = q
members_without (m ∷ ms) o h q = members_without ms (put_some m.0 m.1 o) h.1 (put_some_without m.0 m.1 o h.0 q)

object_without : (ms : List (List ℕ × Option Data)) → AreWithout ms → has_float (object_of ms) ≡ false
object_without ms h = members_without ms no_members h refl

text_without : (text : List ℕ) → IsWithout (text_member text)
unfolding text_member
text_without [] = tt
text_without (b ∷ bs) = refl

array_without : {T : Type 0} (told : T → Data) → ((t : T) → has_float (told t) ≡ false) → (items : List T)
    → IsWithout (array_member (map told items))
unfolding array_member
array_without told none [] = tt
array_without told none (t ∷ items) = items_without told none (t ∷ items)

unless : (b : Bool) (d : Data) → has_float d ≡ false → IsWithout (if b then None else Some d)
unless true d p = tt
unless false d p = p

number_without : (n : ℕ) → IsWithout (number_member n)
unfolding number_member
number_without n = unless (n == 0) (number (unsigned n)) refl

option_without : {T : Type 0} (told : T → Data) → ((t : T) → has_float (told t) ≡ false) → (o : Option T)
    → IsWithout (option_map told o)
option_without told none None = tt
option_without told none (Some t) = none t

waypoint_without : (g : GatewayAddress) → has_float (waypoint_data g) ≡ false
waypoint_without g = object_without (waypoint_members g) (refl, (number_without g.hbone_mtls_port, tt))

port_without : (p : Port) → has_float (port_data p) ≡ false
port_without p = object_without (port_members p) (refl, (number_without p.target_port, tt))

services_without : (ss : List ServicePorts) (ms : Members) → members_have_float ms ≡ false → members_have_float (fold put_service ms ss) ≡ false
services_without [] ms q = q
services_without (s ∷ ss) ms q =
    services_without ss (put_service ms s) (put_without s.key (array (items_of (map port_data s.ports))) ms (items_without port_data port_without s.ports) q)

services_member_without : (ss : List ServicePorts) → IsWithout (services_member ss)
unfolding services_member
services_member_without [] = tt
services_member_without (s ∷ ss) = services_without (s ∷ ss) no_members refl

match_without : (m : Match) → has_float (match_data m) ≡ false
match_without m =
    object_without (match_members m) (
      array_without cidr_data (λ _. refl) m.destination_ips,
      (
        array_without number_data (λ _. refl) m.destination_ports,
        (
          array_without string_match_data (λ _. refl) m.namespaces,
          (
            array_without cidr_data (λ _. refl) m.not_destination_ips,
            (
              array_without number_data (λ _. refl) m.not_destination_ports,
              (
                array_without string_match_data (λ _. refl) m.not_namespaces,
                (
                  array_without string_match_data (λ _. refl) m.not_principals,
                  (
                    array_without cidr_data (λ _. refl) m.not_source_ips,
                    (
                      array_without string_match_data (λ _. refl) m.principals,
                      (array_without cidr_data (λ _. refl) m.source_ips, tt),
                    ),
                  ),
                ),
              ),
            ),
          ),
        ),
      ),
    )

clause_without : (c : Clause) → has_float (clause_data c) ≡ false
clause_without c = items_without match_data match_without c.matches

rule_without : (r : Rule) → has_float (rule_data r) ≡ false
rule_without r = items_without clause_data clause_without r.clauses

workload_without : (w : Workload) → has_float (workload_fields w) ≡ false
workload_without w =
    object_without (workload_members w) (
      text_without w.hostname,
      (
        text_without w.name,
        (
          text_without w.namespace,
          (
            text_without w.network,
            (
              text_without w.node,
              (
                text_without w.service_account,
                (
                  text_without w.trust_domain,
                  (
                    text_without w.uid,
                    (
                      array_without ip_data (λ _. refl) w.addresses,
                      (
                        array_without string (λ _. refl) w.authorization_policies,
                        (
                          refl,
                          (
                            services_member_without w.services,
                            (
                              refl,
                              (option_without waypoint_data waypoint_without w.waypoint, tt),
                            ),
                          ),
                        ),
                      ),
                    ),
                  ),
                ),
              ),
            ),
          ),
        ),
      ),
    )

service_without : (s : Service) → has_float (service_fields s) ≡ false
service_without s =
    object_without (service_members s) (
      array_without network_address_data (λ _. refl) s.addresses,
      (
        text_without s.hostname,
        (
          text_without s.name,
          (
            text_without s.namespace,
            (
              array_without port_data port_without s.ports,
              (option_without waypoint_data waypoint_without s.waypoint, tt),
            ),
          ),
        ),
      ),
    )

policy_without : (p : Authorization) → has_float (policy_fields p) ≡ false
policy_without p =
    object_without (policy_members p) (
      refl,
      (
        text_without p.name,
        (
          text_without p.namespace,
          (
            array_without rule_data rule_without p.rules,
            (refl, tt),
          ),
        ),
      ),
    )

record_without : (a : AddressRecord) → has_float (record_fields a) ≡ false
record_without (records.Workload w) = workload_without w
record_without (records.Service s) = service_without s

content_without : (content : Content) → has_float (content_fields content) ≡ false
content_without (address_content a) = record_without a
content_without (policy_content p) = policy_without p

with_member_without : (k : List ℕ) (d e : Data) → has_float d ≡ false → has_float e ≡ false → has_float (with_member k d e) ≡ false
with_member_without k d (object ms) p q = put_without k d ms p q
with_member_without k d _ p q = q

pub fields_without : (row : Row) → has_float (fields_data row) ≡ false
fields_without row =
    with_member_without (codes "fields") (content_fields row.content) (row_data row) (content_without row.content) (row_without row)
