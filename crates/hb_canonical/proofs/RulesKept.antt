-- What the parts of a policy are, where reading gives them.
use Rattle.std.proofs.Common.{ℕ, ◌==◌, List, Option, Some, None, IfSome, Ok, IfOk}
use Rattle.std.specs.Prelude.{nat_le}
use Rattle.std.specs.List.{All}
use Rattle.hb_wire.specs.Field.{Content, Unread, Value, varint, eight, span, four}
use Rattle.hb_wire.specs.Message.{and_then}
use Rattle.hb_wire.specs.Spelling.{IsOctet}
use Rattle.hb_records.specs.declared.fault.RecordFault.TheVariants.{Wire}
use Rattle.hb_records.specs.declared.rule.Match.{Match}
use Rattle.hb_records.specs.declared.rule.Clause.{Clause}
use Rattle.hb_records.specs.declared.rule.Rule.{Rule}
use Rattle.hb_records.specs.declared.string_match.StringMatch.{StringMatch}
use Rattle.hb_records.specs.declared.string_match.StringMatch.TheVariants.{Exact, Prefix, Suffix, Presence}
use Rattle.hb_records.specs.Entries.{text_in, octets_in}
use Rattle.hb_records.specs.StringMatch.{member_in, member_merged, member_of, kind_or, string_match_in}
use Rattle.hb_records.specs.Prefix.{prefix_merged, prefix_value, no_prefix, prefix_in}
use Rattle.hb_records.specs.Rule.{match_merged, match_value, match_number, texts_span, prefixes_span, ports_span, match_in, no_match, clause_merged, clause_in, rule_merged, rule_in}
use Rattle.hb_records.specs.Numbers.{with_number, packed_in}
use Rattle.hb_canonical.proofs.Kept.{by_test, ok_cond, ok_then, set_kept, any_kept, span_kept, read_keeps, HasOctets, Taker}
use Rattle.hb_canonical.proofs.Pieces.{IsText, IsList, IsNumber, no_list}
use Rattle.hb_canonical.proofs.PiecesKept.{more_put, text_kept, number_kept, packed_kept}
use Rattle.hb_canonical.proofs.Readable.{IsPrefix}
use Rattle.hb_canonical.proofs.AddressesKept.{cidr_kept}

abbrev pub IsStringMatch : StringMatch → Type 0
IsStringMatch (Exact t) = IsText t
IsStringMatch (Prefix t) = IsText t
IsStringMatch (Suffix t) = IsText t
IsStringMatch Presence = Unit {0}

abbrev IsMember : Taker member_of → Type 0
IsMember m = IfSome m.kind IsStringMatch

member_kept : (m : Taker member_of) (f : Content) → IsMember m → HasOctets f.value → IfOk (member_of m f) IsMember
member_kept m f p octets =
    ok_then (member_merged m.kind f) _ (λ k. IfSome k IsStringMatch) IsMember
    (span_kept m.kind f.value (λ bytes. member_in m.kind f.number bytes) (λ k. IfSome k IsStringMatch) p octets (λ bytes _.
    ok_cond (f.number == 1) _ _ _ (ok_then (text_in 1 bytes) _ IsText _ (text_kept 1 bytes) (λ t u. u))
    (ok_cond (f.number == 2) _ _ _ (ok_then (text_in 2 bytes) _ IsText _ (text_kept 2 bytes) (λ t u. u))
    (ok_cond (f.number == 3) _ _ _ (ok_then (text_in 3 bytes) _ IsText _ (text_kept 3 bytes) (λ t u. u))
    (ok_cond (f.number == 4) _ _ _ tt p)))))
    (λ k q. q)

kind_kept : (field : ℕ) (kind : Option StringMatch) → IfSome kind IsStringMatch → IfOk (kind_or field kind) IsStringMatch
kind_kept field None p = tt
kind_kept field (Some kind) p = p

string_match_kept : (field at : ℕ) (bytes : List ℕ) → All IsOctet bytes → IfOk (string_match_in field at bytes) IsStringMatch
unfolding string_match_in
string_match_kept field at bytes octets =
    ok_then _ _ IsMember IsStringMatch (read_keeps member_of Wire IsMember member_kept (record { kind = None }) at bytes tt octets)
    (λ m q. kind_kept field m.kind q)

abbrev IsPrefixPart : Taker prefix_merged → Type 0
IsPrefixPart p = IfSome p.address (All IsOctet)

octets_taken : (p : Taker prefix_merged) (bytes : List ℕ) → All IsOctet bytes
    → IfOk (and_then (octets_in 1 bytes) (λ _. Ok (record p { address = Some bytes }))) IsPrefixPart
octets_taken p bytes octets = ok_then (octets_in 1 bytes) _ (λ _. Unit {0}) IsPrefixPart (any_kept (octets_in 1 bytes)) (λ _ _. octets)

prefix_value_kept : (p : Taker prefix_merged) (number : ℕ) (v : Value) → IsPrefixPart p → HasOctets v
    → IfOk (prefix_value p number v) IsPrefixPart
prefix_value_kept p number (span bytes) q octets = ok_cond (number == 1) _ _ _ (octets_taken p bytes octets) q
prefix_value_kept p number (varint n) q octets = by_test IsPrefixPart (number == 2) _ _ (λ _. q) (λ _. q)
prefix_value_kept p number (eight n) q octets = q
prefix_value_kept p number (four n) q octets = q

prefix_part_kept : (p : Taker prefix_merged) (f : Content) → IsPrefixPart p → HasOctets f.value → IfOk (prefix_merged p f) IsPrefixPart
prefix_part_kept p f q octets = prefix_value_kept p f.number f.value q octets

prefix_kept : (field at : ℕ) (bytes : List ℕ) → All IsOctet bytes → IfOk (prefix_in field at bytes) IsPrefix
unfolding prefix_in
prefix_kept field at bytes octets =
    ok_then _ _ IsPrefixPart IsPrefix (read_keeps prefix_merged Wire IsPrefixPart prefix_part_kept no_prefix at bytes tt octets)
    (λ p q. cidr_kept field p.length p.address q)

-- the lists of a match
pub record IsMatch (m : Match) : Type 0 where
  pub namespaces : IsList IsStringMatch m.namespaces
  pub not_namespaces : IsList IsStringMatch m.not_namespaces
  pub principals : IsList IsStringMatch m.principals
  pub not_principals : IsList IsStringMatch m.not_principals
  pub source_ips : IsList IsPrefix m.source_ips
  pub not_source_ips : IsList IsPrefix m.not_source_ips
  pub destination_ips : IsList IsPrefix m.destination_ips
  pub not_destination_ips : IsList IsPrefix m.not_destination_ips
  pub destination_ports : IsList IsNumber m.destination_ports
  pub not_destination_ports : IsList IsNumber m.not_destination_ports

-- one of the lists, with one more
texts_kept : (m : Match) (number at : ℕ) (bytes : List ℕ) → IsMatch m → All IsOctet bytes → IfOk (texts_span m number at bytes) IsMatch
texts_kept m number at bytes p octets =
    ok_cond (number == 1) _ _ _ (more_put 1 m.namespaces (string_match_in 1 at bytes)
    (λ l. record m { namespaces = l }) IsStringMatch IsMatch
    (string_match_kept 1 at bytes octets) p.namespaces (λ l q. assumption))
    (ok_cond (number == 2) _ _ _ (more_put 2 m.not_namespaces (string_match_in 2 at bytes)
    (λ l. record m { not_namespaces = l }) IsStringMatch IsMatch
    (string_match_kept 2 at bytes octets) p.not_namespaces (λ l q. assumption))
    (ok_cond (number == 3) _ _ _ (more_put 3 m.principals (string_match_in 3 at bytes)
    (λ l. record m { principals = l }) IsStringMatch IsMatch
    (string_match_kept 3 at bytes octets) p.principals (λ l q. assumption))
    (ok_cond (number == 4) _ _ _ (more_put 4 m.not_principals (string_match_in 4 at bytes)
    (λ l. record m { not_principals = l }) IsStringMatch IsMatch
    (string_match_kept 4 at bytes octets) p.not_principals (λ l q. assumption)) p)))

prefixes_kept : (m : Match) (number at : ℕ) (bytes : List ℕ) → IsMatch m → All IsOctet bytes
    → IfOk (prefixes_span m number at bytes) IsMatch
prefixes_kept m number at bytes p octets =
    ok_cond (number == 5) _ _ _ (more_put 5 m.source_ips (prefix_in 5 at bytes) (λ l. record m { source_ips = l }) IsPrefix IsMatch
    (prefix_kept 5 at bytes octets) p.source_ips (λ l q. assumption))
    (ok_cond (number == 6) _ _ _ (more_put 6 m.not_source_ips (prefix_in 6 at bytes)
    (λ l. record m { not_source_ips = l }) IsPrefix IsMatch
    (prefix_kept 6 at bytes octets) p.not_source_ips (λ l q. assumption))
    (ok_cond (number == 7) _ _ _ (more_put 7 m.destination_ips (prefix_in 7 at bytes)
    (λ l. record m { destination_ips = l }) IsPrefix IsMatch
    (prefix_kept 7 at bytes octets) p.destination_ips (λ l q. assumption))
    (ok_cond (number == 8) _ _ _ (more_put 8 m.not_destination_ips (prefix_in 8 at bytes)
    (λ l. record m { not_destination_ips = l }) IsPrefix IsMatch
    (prefix_kept 8 at bytes octets) p.not_destination_ips (λ l q. assumption)) p)))

ports_kept : (m : Match) (number : ℕ) (u : Unread) → IsMatch m → IfOk (ports_span m number u) IsMatch
ports_kept m number u p =
    ok_cond (number == 9) _ _ _ (set_kept (packed_in 9 m.destination_ports u) (λ l. record m { destination_ports = l })
    (IsList IsNumber) IsMatch
    (packed_kept 9 m.destination_ports u p.destination_ports) (λ l q. assumption))
    (ok_cond (number == 10) _ _ _ (set_kept (packed_in 10 m.not_destination_ports u) (λ l. record m { not_destination_ports = l })
    (IsList IsNumber) IsMatch
    (packed_kept 10 m.not_destination_ports u p.not_destination_ports) (λ l q. assumption)) p)

match_number_kept : (m : Match) (number n : ℕ) → IsMatch m → IfOk (match_number m number n) IsMatch
match_number_kept m number n p =
    ok_cond (number == 9) _ _ _ (set_kept (with_number 9 m.destination_ports n) (λ l. record m { destination_ports = l })
    (IsList IsNumber) IsMatch
    (number_kept 9 m.destination_ports n p.destination_ports) (λ l q. assumption))
    (ok_cond (number == 10) _ _ _ (set_kept (with_number 10 m.not_destination_ports n) (λ l. record m { not_destination_ports = l })
    (IsList IsNumber) IsMatch
    (number_kept 10 m.not_destination_ports n p.not_destination_ports) (λ l q. assumption)) p)

match_value_kept : (m : Match) (number at : ℕ) (v : Value) → IsMatch m → HasOctets v → IfOk (match_value m number at v) IsMatch
match_value_kept m number at (span bytes) p octets =
    ok_cond (nat_le number 4) _ _ _ (texts_kept m number at bytes p octets)
    (ok_cond (nat_le number 8) _ _ _ (prefixes_kept m number at bytes p octets) (ports_kept m number _ p))
match_value_kept m number at (varint n) p octets = match_number_kept m number n p
match_value_kept m number at (eight n) p octets = p
match_value_kept m number at (four n) p octets = p

match_kept : (at : ℕ) (bytes : List ℕ) → All IsOctet bytes → IfOk (match_in at bytes) IsMatch
unfolding match_in
match_kept at bytes octets =
    read_keeps match_merged Wire IsMatch (λ m f p o. match_value_kept m f.number f.at f.value p o) no_match at bytes (record {
      namespaces = no_list _;
      not_namespaces = no_list _;
      principals = no_list _;
      not_principals = no_list _;
      source_ips = no_list _;
      not_source_ips = no_list _;
      destination_ips = no_list _;
      not_destination_ips = no_list _;
      destination_ports = no_list _;
      not_destination_ports = no_list _;
    }) octets

pub record IsClause (c : Clause) : Type 0 where
  pub matches : IsList IsMatch c.matches

clause_part_kept : (c : Clause) (f : Content) → IsClause c → HasOctets f.value → IfOk (clause_merged c f) IsClause
clause_part_kept c f p octets = span_kept c f.value _ IsClause p octets (λ bytes o.
    ok_cond (f.number == 2) _ _ _ (more_put 2 c.matches (match_in f.at bytes) (λ l. record { matches = l }) IsMatch IsClause
    (match_kept f.at bytes o) p.matches (λ l q. record { matches = q })) p)

clause_kept : (at : ℕ) (bytes : List ℕ) → All IsOctet bytes → IfOk (clause_in at bytes) IsClause
unfolding clause_in
clause_kept at bytes octets = read_keeps clause_merged Wire IsClause clause_part_kept _ at bytes (record { matches = no_list _ }) octets

pub record IsRule (r : Rule) : Type 0 where
  pub clauses : IsList IsClause r.clauses

rule_part_kept : (r : Rule) (f : Content) → IsRule r → HasOctets f.value → IfOk (rule_merged r f) IsRule
rule_part_kept r f p octets = span_kept r f.value _ IsRule p octets (λ bytes o.
    ok_cond (f.number == 2) _ _ _ (more_put 2 r.clauses (clause_in f.at bytes) (λ l. record { clauses = l }) IsClause IsRule
    (clause_kept f.at bytes o) p.clauses (λ l q. record { clauses = q })) p)

pub rule_kept : (at : ℕ) (bytes : List ℕ) → All IsOctet bytes → IfOk (rule_in at bytes) IsRule
unfolding rule_in
rule_kept at bytes octets = read_keeps rule_merged Wire IsRule rule_part_kept _ at bytes (record { clauses = no_list _ }) octets
