-- Authorization policies in canonical spelling.
use Rattle.std.specs.Prelude.{ℕ, List, [], ◌++◌}
use Rattle.hb_base.specs.declared.cidr.Cidr.{Cidr}
use Rattle.hb_wire.specs.Writing.{number_of, bytes_of, packed_of}
use Rattle.hb_records.specs.declared.authorization.Action.{Action}
use Rattle.hb_records.specs.declared.authorization.Action.TheVariants.{Allow, Deny}
use Rattle.hb_records.specs.declared.authorization.Authorization.{Authorization}
use Rattle.hb_records.specs.declared.authorization.Reach.{Reach}
use Rattle.hb_records.specs.declared.authorization.Reach.TheVariants.{Global, Namespace, Selector}
use Rattle.hb_records.specs.declared.rule.Clause.{Clause}
use Rattle.hb_records.specs.declared.rule.Match.{Match}
use Rattle.hb_records.specs.declared.rule.Rule.{Rule}
use Rattle.hb_records.specs.declared.string_match.StringMatch.{StringMatch}
use Rattle.hb_records.specs.declared.string_match.StringMatch.TheVariants.{Exact, Prefix, Suffix, Presence}
use Rattle.hb_canonical.specs.Fields.{text_field, entries_of, octets_of}

-- one of exact 1, prefix 2, suffix 3 and presence 4, written also where it is empty; presence always is
unfoldable pub string_match_of : StringMatch → List ℕ
string_match_of (Exact text) = bytes_of 1 text
string_match_of (Prefix text) = bytes_of 2 text
string_match_of (Suffix text) = bytes_of 3 text
string_match_of Presence = bytes_of 4 []

-- address 1, length 2
unfoldable pub prefix_of : Cidr → List ℕ
prefix_of c = bytes_of 1 (octets_of c.ip) ++ number_of 2 c.length

-- namespaces 1, not_namespaces 2, principals 3, not_principals 4, source_ips 5, not_source_ips 6, destination_ips 7,
-- not_destination_ips 8, destination_ports 9, not_destination_ports 10
unfoldable pub match_of : Match → List ℕ
match_of m =
    entries_of 1 string_match_of m.namespaces
    ++ (entries_of 2 string_match_of m.not_namespaces
    ++ (entries_of 3 string_match_of m.principals
    ++ (entries_of 4 string_match_of m.not_principals
    ++ (entries_of 5 prefix_of m.source_ips
    ++ (entries_of 6 prefix_of m.not_source_ips
    ++ (entries_of 7 prefix_of m.destination_ips
    ++ (entries_of 8 prefix_of m.not_destination_ips
    ++ (packed_of 9 m.destination_ports
    ++ packed_of 10 m.not_destination_ports))))))))

-- matches 2
unfoldable pub clause_of : Clause → List ℕ
clause_of c = entries_of 2 match_of c.matches

-- clauses 2
unfoldable pub rule_of : Rule → List ℕ
rule_of r = entries_of 2 clause_of r.clauses

-- scope: all of the mesh 0, a namespace 1, those that name the policy 2
abbrev pub reach_number : Reach → ℕ
reach_number Global = 0
reach_number Namespace = 1
reach_number Selector = 2

-- action: allow 0, deny 1
abbrev pub action_number : Action → ℕ
action_number Allow = 0
action_number Deny = 1

-- name 1, namespace 2, scope 3, action 4, rules 5
unfoldable pub canonical_authorization : Authorization → List ℕ
canonical_authorization a =
    text_field 1 a.name
    ++ (text_field 2 a.namespace
    ++ (number_of 3 (reach_number a.scope)
    ++ (number_of 4 (action_number a.action)
    ++ entries_of 5 rule_of a.rules)))
