-- What a policy is, where reading gives it.
use Rattle.std.proofs.Common.{◌≡◌, ℕ, ◌==◌, List, Ok, IfOk}
use Rattle.std.specs.List.{All}
use Rattle.hb_wire.specs.Field.{Value, varint, eight, span, four}
use Rattle.hb_wire.specs.Spelling.{IsOctet}
use Rattle.hb_records.specs.declared.fault.RecordFault.TheVariants.{Wire}
use Rattle.hb_records.specs.declared.authorization.Authorization.{Authorization}
use Rattle.hb_records.specs.Entries.{low_32}
use Rattle.hb_records.specs.Rule.{rule_in}
use Rattle.hb_records.specs.Authorization.{reach_of, action_of, policy_span, policy_number, policy_value, authorization_merged, no_authorization, authorization_of}
use Rattle.hb_canonical.proofs.Kept.{ok_cond, ok_at, set_kept, any_kept, read_keeps, HasOctets}
use Rattle.hb_canonical.proofs.Pieces.{IsText, IsList, no_text, no_list}
use Rattle.hb_canonical.proofs.PiecesKept.{text_put, more_put}
use Rattle.hb_canonical.proofs.RulesKept.{IsRule, rule_kept}

pub record IsPolicy (a : Authorization) : Type 0 where
  pub name : IsText a.name
  pub namespace : IsText a.namespace
  pub rules : IsList IsRule a.rules

span_taken : (a : Authorization) (number at : ℕ) (bytes : List ℕ) → IsPolicy a → All IsOctet bytes
    → IfOk (policy_span a number at bytes) IsPolicy
span_taken a number at bytes p octets =
    ok_cond (number == 1) _ _ _
    (text_put 1 bytes (λ t. record a { name = t }) IsPolicy (λ t q. assumption))
    (ok_cond (number == 2) _ _ _
    (text_put 2 bytes (λ t. record a { namespace = t }) IsPolicy (λ t q. assumption))
    (ok_cond (number == 5) _ _ _
    (more_put 5 a.rules (rule_in at bytes) (λ l. record a { rules = l }) IsRule IsPolicy
    (rule_kept at bytes octets) p.rules (λ l q. assumption)) p))

number_taken : (a : Authorization) (number n : ℕ) → IsPolicy a → IfOk (policy_number a number n) IsPolicy
number_taken a number n p =
    ok_cond (number == 3) _ _ _
    (set_kept (reach_of (low_32 n)) (λ r. record a { scope = r }) (λ _. Unit {0}) IsPolicy (any_kept (reach_of (low_32 n)))
    (λ r _. assumption))
    (ok_cond (number == 4) _ _ _
    (set_kept (action_of (low_32 n)) (λ x. record a { action = x }) (λ _. Unit {0}) IsPolicy (any_kept (action_of (low_32 n)))
    (λ x _. assumption)) p)

value_taken : (a : Authorization) (number at : ℕ) (v : Value) → IsPolicy a → HasOctets v → IfOk (policy_value a number at v) IsPolicy
value_taken a number at (span bytes) p octets = span_taken a number at bytes p octets
value_taken a number at (varint n) p octets = number_taken a number n p
value_taken a number at (eight n) p octets = p
value_taken a number at (four n) p octets = p

-- a policy that octets are
pub policy_kept : (bytes : List ℕ) (a : Authorization) → All IsOctet bytes → authorization_of bytes ≡ Ok a → IsPolicy a
unfolding authorization_of
policy_kept bytes a octets is =
    ok_at (authorization_of bytes) IsPolicy a
    (read_keeps authorization_merged Wire IsPolicy (λ a f p o. value_taken a f.number f.at f.value p o) no_authorization 0 bytes
    (record { name = no_text; namespace = no_text; rules = no_list IsRule }) octets) is
