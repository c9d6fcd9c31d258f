-- The rules of a policy.
use Rattle.std.specs.Prelude.{ℕ, ◌==◌, nat_le, List, [], Result, Ok, if◌then◌else◌}
use Rattle.hb_wire.specs.Field.{Unread, Content, Value, varint, eight, span, four}
use Rattle.hb_wire.specs.Message.{and_then}
use Rattle.hb_message.specs.Reading.{read_into, of_span}
use Rattle.hb_records.specs.declared.fault.RecordFault.{RecordFault}
use Rattle.hb_records.specs.declared.fault.RecordFault.TheVariants.{Wire}
use Rattle.hb_records.specs.declared.rule.Match.{Match}
use Rattle.hb_records.specs.declared.rule.Clause.{Clause}
use Rattle.hb_records.specs.declared.rule.Rule.{Rule}
use Rattle.hb_records.specs.Entries.{one_more}
use Rattle.hb_records.specs.StringMatch.{string_match_in}
use Rattle.hb_records.specs.Prefix.{prefix_in}
use Rattle.hb_records.specs.Numbers.{with_number, packed_in}

-- namespaces 1, not_namespaces 2, principals 3 and not_principals 4 are string matches
abbrev pub texts_span : Match → ℕ → ℕ → List ℕ → Result Match RecordFault
texts_span m number at bytes =
    if number == 1 then and_then (one_more 1 m.namespaces (string_match_in 1 at bytes)) (λ l. Ok (record m { namespaces = l }))
    else (if number == 2 then and_then (one_more 2 m.not_namespaces (string_match_in 2 at bytes))
    (λ l. Ok (record m { not_namespaces = l }))
    else (if number == 3 then and_then (one_more 3 m.principals (string_match_in 3 at bytes)) (λ l. Ok (record m { principals = l }))
    else (if number == 4 then and_then (one_more 4 m.not_principals (string_match_in 4 at bytes))
    (λ l. Ok (record m { not_principals = l }))
    else Ok m)))

-- source_ips 5, not_source_ips 6, destination_ips 7 and not_destination_ips 8 are prefixes
abbrev pub prefixes_span : Match → ℕ → ℕ → List ℕ → Result Match RecordFault
prefixes_span m number at bytes =
    if number == 5 then and_then (one_more 5 m.source_ips (prefix_in 5 at bytes)) (λ l. Ok (record m { source_ips = l }))
    else (if number == 6 then and_then (one_more 6 m.not_source_ips (prefix_in 6 at bytes)) (λ l. Ok (record m { not_source_ips = l }))
    else (if number == 7 then and_then (one_more 7 m.destination_ips (prefix_in 7 at bytes)) (λ l. Ok (record m { destination_ips = l }))
    else (if number == 8 then and_then (one_more 8 m.not_destination_ips (prefix_in 8 at bytes))
    (λ l. Ok (record m { not_destination_ips = l }))
    else Ok m)))

-- destination_ports 9 and not_destination_ports 10 are numbers, packed here
abbrev pub ports_span : Match → ℕ → Unread → Result Match RecordFault
ports_span m number u =
    if number == 9 then and_then (packed_in 9 m.destination_ports u) (λ l. Ok (record m { destination_ports = l }))
    else (if number == 10 then and_then (packed_in 10 m.not_destination_ports u) (λ l. Ok (record m { not_destination_ports = l }))
    else Ok m)

abbrev pub match_span : Match → ℕ → ℕ → List ℕ → Result Match RecordFault
match_span m number at bytes =
    if nat_le number 4 then texts_span m number at bytes
    else (if nat_le number 8 then prefixes_span m number at bytes
    else ports_span m number (record { at = at; left = bytes }))

-- the same two, one a field
abbrev pub match_number : Match → ℕ → ℕ → Result Match RecordFault
match_number m number n =
    if number == 9 then and_then (with_number 9 m.destination_ports n) (λ l. Ok (record m { destination_ports = l }))
    else (if number == 10 then and_then (with_number 10 m.not_destination_ports n) (λ l. Ok (record m { not_destination_ports = l }))
    else Ok m)

abbrev pub match_value : Match → ℕ → ℕ → Value → Result Match RecordFault
match_value m number at (span bytes) = match_span m number at bytes
match_value m number at (varint n) = match_number m number n
match_value m number at (eight n) = Ok m
match_value m number at (four n) = Ok m

abbrev pub match_merged : Match → Content → Result Match RecordFault
match_merged m f = match_value m f.number f.at f.value

abbrev pub no_match : Match
no_match = record {
  namespaces = [];
  not_namespaces = [];
  principals = [];
  not_principals = [];
  source_ips = [];
  not_source_ips = [];
  destination_ips = [];
  not_destination_ips = [];
  destination_ports = [];
  not_destination_ports = [];
}

-- the match of these bytes at a place
unfoldable pub match_in : ℕ → List ℕ → Result Match RecordFault
match_in at bytes = read_into match_merged Wire no_match at bytes

-- a clause has matches 2
abbrev pub clause_merged : Clause → Content → Result Clause RecordFault
clause_merged c f = of_span c f.value (λ bytes.
    if f.number == 2 then and_then (one_more 2 c.matches (match_in f.at bytes)) (λ l. Ok (record { matches = l })) else Ok c)

unfoldable pub clause_in : ℕ → List ℕ → Result Clause RecordFault
clause_in at bytes = read_into clause_merged Wire (record { matches = [] }) at bytes

-- a rule has clauses 2
abbrev pub rule_merged : Rule → Content → Result Rule RecordFault
rule_merged r f = of_span r f.value (λ bytes.
    if f.number == 2 then and_then (one_more 2 r.clauses (clause_in f.at bytes)) (λ l. Ok (record { clauses = l })) else Ok r)

unfoldable pub rule_in : ℕ → List ℕ → Result Rule RecordFault
rule_in at bytes = read_into rule_merged Wire (record { clauses = [] }) at bytes
