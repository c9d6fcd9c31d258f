-- What policies say of a connection.
use Rattle.std.specs.Prelude.{ℕ, Bool, true, false, not, ◌==◌, ◌&&◌, ◌||◌, nat_eq, List, length, Option, Some, None}
use Rattle.std.specs.List.{list_all, list_any, position, starts_with, ends_with}
use Rattle.std.specs.Str.{bytes_eq}
use Rattle.hb_base.specs.Cidr.{covers}
use Rattle.hb_base.specs.declared.cidr.Cidr.{Cidr}
use Rattle.hb_base.specs.declared.ip.Ip.{Ip}
use Rattle.hb_records.specs.declared.authorization.Action.{Action}
use Rattle.hb_records.specs.declared.authorization.Action.TheVariants.{Allow, Deny}
use Rattle.hb_records.specs.declared.authorization.Authorization.{Authorization}
use Rattle.hb_records.specs.declared.rule.Match.{Match}
use Rattle.hb_records.specs.declared.rule.Clause.{Clause}
use Rattle.hb_records.specs.declared.rule.Rule.{Rule}
use Rattle.hb_records.specs.declared.string_match.StringMatch.{StringMatch}
use Rattle.hb_records.specs.declared.string_match.StringMatch.TheVariants.{Exact, Prefix, Suffix, Presence}
use Rattle.hb_policy.specs.Connection.{Connection, principal, namespace}

-- a text meets a string match
abbrev pub text_matches : StringMatch → List ℕ → Bool
text_matches (Exact t) text = bytes_eq text t
text_matches (Prefix t) text = starts_with nat_eq text t
text_matches (Suffix t) text = ends_with nat_eq text t
text_matches Presence text = not (length text == 0)

-- a text that a connection has meets it; where it has none, no value matches
abbrev pub matches : Option (List ℕ) → StringMatch → Bool
matches None value = false
matches (Some text) value = text_matches value text

-- an address is among those of a prefix
abbrev pub is_covered : Ip → Cidr → Bool
is_covered ip prefix = covers prefix ip

-- a port has this number
abbrev pub has_number : ℕ → ℕ → Bool
has_number port number = port == number

-- a positive attribute is met where it is empty or one of its values matches
abbrev pub is_met : {V : Type 0} → (V → Bool) → List V → Bool
is_met test values = length values == 0 || list_any test values

-- a negative attribute is met where none of its values matches
abbrev pub is_avoided : {V : Type 0} → (V → Bool) → List V → Bool
is_avoided test values = not (list_any test values)

-- all attributes of a match are met
abbrev pub match_met : Connection → Match → Bool
match_met c m =
    is_met (matches (namespace c)) m.namespaces && is_avoided (matches (namespace c)) m.not_namespaces
    && is_met (matches (principal c)) m.principals && is_avoided (matches (principal c)) m.not_principals
    && is_met (is_covered c.peer.ip) m.source_ips && is_avoided (is_covered c.peer.ip) m.not_source_ips
    && is_met (is_covered c.target.ip) m.destination_ips && is_avoided (is_covered c.target.ip) m.not_destination_ips
    && is_met (has_number c.target.port) m.destination_ports && is_avoided (has_number c.target.port) m.not_destination_ports

-- one match of a clause is met
abbrev pub clause_met : Connection → Clause → Bool
clause_met c clause = list_any (match_met c) clause.matches

-- all clauses of a rule are met
abbrev pub rule_met : Connection → Rule → Bool
rule_met c r = list_all (clause_met c) r.clauses

-- a policy fires where one of its rules is met
abbrev pub fires : Connection → Authorization → Bool
fires c a = list_any (rule_met c) a.rules

-- the number of the first of its rules that is met, from 0
abbrev pub first_rule : Connection → Authorization → Option ℕ
first_rule c a = position (rule_met c) a.rules

abbrev pub is_deny : Action → Bool
is_deny Deny = true
is_deny Allow = false

-- No policy that denies fires, and there is none that allows or one of them fires.
abbrev pub admitted_by : Connection → List Authorization → Bool
admitted_by c policies =
    not (list_any (λ a. is_deny a.action && fires c a) policies)
    && (not (list_any (λ a. not (is_deny a.action)) policies) || list_any (λ a. not (is_deny a.action) && fires c a) policies)
