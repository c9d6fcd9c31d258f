-- The parts of a policy are read from their canonical spelling.
use Rattle.std.proofs.Common.{◌≡◌, ℕ, ◌^◌, ◌<◌, true, List, [], length, Some, None, Result, Ok, refl, ap, ◌∙◌, arith}
use Rattle.hb_base.specs.declared.cidr.Cidr.{Cidr}
use Rattle.hb_wire.specs.Field.{span, is_number}
use Rattle.hb_wire.specs.Message.{and_then}
use Rattle.hb_records.specs.declared.fault.RecordFault.TheVariants.{Wire}
use Rattle.hb_records.specs.declared.rule.Match.{Match}
use Rattle.hb_records.specs.declared.rule.Clause.{Clause}
use Rattle.hb_records.specs.declared.rule.Rule.{Rule}
use Rattle.hb_records.specs.declared.string_match.StringMatch.{StringMatch}
use Rattle.hb_records.specs.declared.string_match.StringMatch.TheVariants.{Exact, Prefix, Suffix, Presence}
use Rattle.hb_records.specs.Entries.{one_more}
use Rattle.hb_records.specs.StringMatch.{member_of, kind_or, string_match_in}
use Rattle.hb_records.specs.Prefix.{prefix_merged, no_prefix, octets_or, cidr_or, prefix_in}
use Rattle.hb_records.specs.Rule.{match_merged, match_in, no_match, clause_merged, clause_in, rule_merged, rule_in}
use Rattle.hb_canonical.specs.Fields.{octets_of, entries_of}
use Rattle.hb_canonical.specs.Authorization.{string_match_of, prefix_of, match_of, clause_of, rule_of}
use Rattle.hb_canonical.proofs.Makes.{Makes, makes_both, makes_bytes, made_is_read}
use Rattle.hb_canonical.proofs.Kept.{Taker}
use Rattle.hb_canonical.proofs.Pieces.{IsList, makes_low, makes_list, makes_packed}
use Rattle.hb_canonical.proofs.Readable.{IsPrefix, prefix_back, prefix_short, octets_taken}
use Rattle.hb_canonical.proofs.RulesKept.{IsStringMatch, IsMatch, IsClause, IsRule}

member_made : (s : StringMatch) → IsStringMatch s → Makes member_of (record { kind = None }) (string_match_of s)
    (record { kind = Some s })
unfolding string_match_of
member_made (Exact t) u = makes_bytes member_of _ _ 1 t refl (λ _ at. rw u refl)
member_made (Prefix t) u = makes_bytes member_of _ _ 2 t refl (λ _ at. rw u refl)
member_made (Suffix t) u = makes_bytes member_of _ _ 3 t refl (λ _ at. rw u refl)
member_made Presence u = makes_bytes member_of _ _ 4 [] refl (λ _ at. refl)

string_match_made : (field at : ℕ) (s : StringMatch) → IsStringMatch s → length (string_match_of s) < 2 ^ 64
    → string_match_in field at (string_match_of s) ≡ Ok s
unfolding string_match_in
string_match_made field at s u small = ap (λ (r : Result (Taker member_of) _). and_then r (λ m. kind_or field m.kind))
    (made_is_read member_of Wire (record { kind = None }) (record { kind = Some s }) at (string_match_of s) small (member_made s u))

parts_made : (c : Cidr) → IsPrefix c
    → Makes prefix_merged no_prefix (prefix_of c) (record { address = Some (octets_of c.ip); length = c.length })
unfolding prefix_of
parts_made c p =
    makes_both prefix_merged no_prefix (record { address = Some (octets_of c.ip); length = 0 }) _ _ _
    (makes_bytes prefix_merged no_prefix _ 1 (octets_of c.ip) refl (λ _ at. octets_taken 1 c.ip _))
    (makes_low prefix_merged (λ n. record { address = Some (octets_of c.ip); length = n }) 2 refl (λ at n. refl) c.length
    (let short = prefix_short c.ip c.length p in omega arith))

prefix_made : (field at : ℕ) (c : Cidr) → IsPrefix c → length (prefix_of c) < 2 ^ 64 → prefix_in field at (prefix_of c) ≡ Ok c
unfolding prefix_in
prefix_made field at c p small =
    ap (λ (r : Result (Taker prefix_merged) _). and_then r (λ p. octets_or field p.length p.address))
    (made_is_read prefix_merged Wire no_prefix _ at (prefix_of c) small (parts_made c p))
    ∙ ap (cidr_or field) (prefix_back c.ip c.length p)

-- the lists of string matches and prefixes of a match
texts : (put : List StringMatch → Match) (number : ℕ) → is_number number ≡ true
    → ((done : List StringMatch) (at : ℕ) (bytes : List ℕ) → match_merged (put done)
    (record { number = number; at = at; value = span bytes })
    ≡ and_then (one_more number done (string_match_in number at bytes)) (λ l. Ok (put l)))
    → (l : List StringMatch) → IsList IsStringMatch l → Makes match_merged (put []) (entries_of number string_match_of l) (put l)
texts put number is takes = makes_list match_merged put number string_match_of IsStringMatch (string_match_in number) is takes
    (string_match_made number)

prefixes : (put : List Cidr → Match) (number : ℕ) → is_number number ≡ true
    → ((done : List Cidr) (at : ℕ) (bytes : List ℕ) → match_merged (put done) (record { number = number; at = at; value = span bytes })
    ≡ and_then (one_more number done (prefix_in number at bytes)) (λ l. Ok (put l)))
    → (l : List Cidr) → IsList IsPrefix l → Makes match_merged (put []) (entries_of number prefix_of l) (put l)
prefixes put number is takes = makes_list match_merged put number prefix_of IsPrefix (prefix_in number) is takes (prefix_made number)

fields_made : (m : Match) → IsMatch m → Makes match_merged no_match (match_of m) m
unfolding match_of
fields_made m p =
    let m1 : Match = record no_match { namespaces = m.namespaces } in
    let m2 : Match = record m1 { not_namespaces = m.not_namespaces } in
    let m3 : Match = record m2 { principals = m.principals } in
    let m4 : Match = record m3 { not_principals = m.not_principals } in
    let m5 : Match = record m4 { source_ips = m.source_ips } in
    let m6 : Match = record m5 { not_source_ips = m.not_source_ips } in
    let m7 : Match = record m6 { destination_ips = m.destination_ips } in
    let m8 : Match = record m7 { not_destination_ips = m.not_destination_ips } in
    let m9 : Match = record m8 { destination_ports = m.destination_ports } in
    makes_both match_merged no_match m1 m _ _
    (texts (λ l. record no_match { namespaces = l }) 1 refl (λ done at bytes. refl) m.namespaces p.namespaces)
    (makes_both match_merged m1 m2 m _ _
    (texts (λ l. record m1 { not_namespaces = l }) 2 refl (λ done at bytes. refl) m.not_namespaces p.not_namespaces)
    (makes_both match_merged m2 m3 m _ _
    (texts (λ l. record m2 { principals = l }) 3 refl (λ done at bytes. refl) m.principals p.principals)
    (makes_both match_merged m3 m4 m _ _
    (texts (λ l. record m3 { not_principals = l }) 4 refl (λ done at bytes. refl) m.not_principals p.not_principals)
    (makes_both match_merged m4 m5 m _ _
    (prefixes (λ l. record m4 { source_ips = l }) 5 refl (λ done at bytes. refl) m.source_ips p.source_ips)
    (makes_both match_merged m5 m6 m _ _
    (prefixes (λ l. record m5 { not_source_ips = l }) 6 refl (λ done at bytes. refl) m.not_source_ips p.not_source_ips)
    (makes_both match_merged m6 m7 m _ _
    (prefixes (λ l. record m6 { destination_ips = l }) 7 refl (λ done at bytes. refl) m.destination_ips p.destination_ips)
    (makes_both match_merged m7 m8 m _ _
    (prefixes (λ l. record m7 { not_destination_ips = l }) 8 refl (λ done at bytes. refl) m.not_destination_ips p.not_destination_ips)
    (makes_both match_merged m8 m9 m _ _
    (makes_packed match_merged (λ l. record m8 { destination_ports = l }) 9 refl
    (λ at bytes. refl) m.destination_ports p.destination_ports)
    (makes_packed match_merged (λ l. record m9 { not_destination_ports = l }) 10 refl (λ at bytes. refl) m.not_destination_ports
    p.not_destination_ports)))))))))

match_made : (at : ℕ) (m : Match) → IsMatch m → length (match_of m) < 2 ^ 64 → match_in at (match_of m) ≡ Ok m
unfolding match_in
match_made at m p small = made_is_read match_merged Wire no_match m at (match_of m) small (fields_made m p)

clause_made : (at : ℕ) (c : Clause) → IsClause c → length (clause_of c) < 2 ^ 64 → clause_in at (clause_of c) ≡ Ok c
unfolding clause_in clause_of
clause_made at c p small = made_is_read clause_merged Wire _ c at (clause_of c) small
    (makes_list clause_merged (λ l. record { matches = l }) 2 match_of IsMatch match_in refl
    (λ done at bytes. refl) match_made c.matches p.matches)

pub rule_made : (at : ℕ) (r : Rule) → IsRule r → length (rule_of r) < 2 ^ 64 → rule_in at (rule_of r) ≡ Ok r
unfolding rule_in rule_of
rule_made at r p small = made_is_read rule_merged Wire _ r at (rule_of r) small
    (makes_list rule_merged (λ l. record { clauses = l }) 2 clause_of IsClause clause_in refl
    (λ done at bytes. refl) clause_made r.clauses p.clauses)
