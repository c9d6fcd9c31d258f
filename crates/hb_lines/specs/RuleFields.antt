-- What a rule of a policy asks for, as Istio spells it: a rule is the list of its clauses, which all have to be met, a clause that of its
-- matches, of which one has to be met.
use Rattle.std.specs.Prelude.{ℕ, List, [], ◌∷◌, ◌++◌, Option, map, codes, decimal}
use Rattle.hb_base.specs.declared.cidr.Cidr.{Cidr}
use Rattle.hb_base.specs.IpText.{ip_text}
use Rattle.hb_records.specs.declared.rule.Clause.{Clause}
use Rattle.hb_records.specs.declared.rule.Match.{Match}
use Rattle.hb_records.specs.declared.rule.Rule.{Rule}
use Rattle.hb_records.specs.declared.string_match.StringMatch.{StringMatch}
use Rattle.hb_records.specs.declared.string_match.StringMatch.TheVariants.{Exact, Prefix, Suffix, Presence}
use Rattle.serde_json.specs.Data.{Data, string, array}
use Rattle.serde_json.specs.View.{items_of}
use Rattle.hb_lines.specs.Object.{array_member, object_of}
use Rattle.hb_lines.specs.Value.{number_data}

-- a string match: a star stands for any text, alone for any that isn't empty
abbrev pub string_match_text : StringMatch → List ℕ
string_match_text (Exact text) = text
string_match_text (Prefix text) = text ++ codes "*"
string_match_text (Suffix text) = codes "*" ++ text
string_match_text Presence = codes "*"

abbrev pub string_match_data : StringMatch → Data
string_match_data m = string (string_match_text m)

-- a prefix: its address, a slash, and how many bits count (RFC 4632 section 3.1)
abbrev pub cidr_text : Cidr → List ℕ
cidr_text c = ip_text c.ip ++ codes "/" ++ decimal c.length

abbrev pub cidr_data : Cidr → Data
cidr_data c = string (cidr_text c)

-- a match: the lists that it has
abbrev pub match_members : Match → List (List ℕ × Option Data)
match_members m =
    (codes "destinationIps", array_member (map cidr_data m.destination_ips)) ∷
    (codes "destinationPorts", array_member (map number_data m.destination_ports)) ∷
    (codes "namespaces", array_member (map string_match_data m.namespaces)) ∷
    (codes "notDestinationIps", array_member (map cidr_data m.not_destination_ips)) ∷
    (codes "notDestinationPorts", array_member (map number_data m.not_destination_ports)) ∷
    (codes "notNamespaces", array_member (map string_match_data m.not_namespaces)) ∷
    (codes "notPrincipals", array_member (map string_match_data m.not_principals)) ∷
    (codes "notSourceIps", array_member (map cidr_data m.not_source_ips)) ∷
    (codes "principals", array_member (map string_match_data m.principals)) ∷
    (codes "sourceIps", array_member (map cidr_data m.source_ips)) ∷ []

abbrev pub match_data : Match → Data
match_data m = object_of (match_members m)

abbrev pub clause_data : Clause → Data
clause_data c = array (items_of (map match_data c.matches))

abbrev pub rule_data : Rule → Data
rule_data r = array (items_of (map clause_data r.clauses))
