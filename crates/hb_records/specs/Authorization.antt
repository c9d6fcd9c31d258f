-- Authorization policies.
use Rattle.std.specs.Prelude.{ℕ, ◌==◌, List, [], Result, Ok, Err, if◌then◌else◌}
use Rattle.hb_wire.specs.Field.{Content, Value, varint, eight, span, four}
use Rattle.hb_wire.specs.Message.{and_then}
use Rattle.hb_message.specs.Reading.{read_into}
use Rattle.hb_records.specs.declared.fault.RecordFault.{RecordFault}
use Rattle.hb_records.specs.declared.fault.RecordFault.TheVariants.{Wire, BadEnum}
use Rattle.hb_records.specs.declared.authorization.Reach.{Reach}
use Rattle.hb_records.specs.declared.authorization.Reach.TheVariants.{Global, Namespace, Selector}
use Rattle.hb_records.specs.declared.authorization.Action.{Action}
use Rattle.hb_records.specs.declared.authorization.Action.TheVariants.{Allow, Deny}
use Rattle.hb_records.specs.declared.authorization.Authorization.{Authorization}
use Rattle.hb_records.specs.Entries.{text_in, low_32, one_more}
use Rattle.hb_records.specs.Rule.{rule_in}

-- scope 3: 0 is the mesh, 1 the policy's namespace, 2 the workloads that name it
abbrev pub reach_of : ℕ → Result Reach RecordFault
reach_of n =
    if n == 0 then Ok Global
    else (if n == 1 then Ok Namespace
    else (if n == 2 then Ok Selector else Err (BadEnum 3 n)))

-- action 4: 0 allows, 1 denies
abbrev pub action_of : ℕ → Result Action RecordFault
action_of n =
    if n == 0 then Ok Allow
    else (if n == 1 then Ok Deny else Err (BadEnum 4 n))

-- name 1, namespace 2 and rules 5
abbrev pub policy_span : Authorization → ℕ → ℕ → List ℕ → Result Authorization RecordFault
policy_span a number at bytes =
    if number == 1 then and_then (text_in 1 bytes) (λ t. Ok (record a { name = t }))
    else (if number == 2 then and_then (text_in 2 bytes) (λ t. Ok (record a { namespace = t }))
    else (if number == 5 then and_then (one_more 5 a.rules (rule_in at bytes)) (λ l. Ok (record a { rules = l }))
    else Ok a))

abbrev pub policy_number : Authorization → ℕ → ℕ → Result Authorization RecordFault
policy_number a number n =
    if number == 3 then and_then (reach_of (low_32 n)) (λ r. Ok (record a { scope = r }))
    else (if number == 4 then and_then (action_of (low_32 n)) (λ x. Ok (record a { action = x }))
    else Ok a)

abbrev pub policy_value : Authorization → ℕ → ℕ → Value → Result Authorization RecordFault
policy_value a number at (span bytes) = policy_span a number at bytes
policy_value a number at (varint n) = policy_number a number n
policy_value a number at (eight n) = Ok a
policy_value a number at (four n) = Ok a

abbrev pub authorization_merged : Authorization → Content → Result Authorization RecordFault
authorization_merged a f = policy_value a f.number f.at f.value

abbrev pub no_authorization : Authorization
no_authorization = record { name = []; namespace = []; scope = Global; action = Allow; rules = [] }

-- the policy that these bytes are
unfoldable pub authorization_of : List ℕ → Result Authorization RecordFault
authorization_of bytes = read_into authorization_merged Wire no_authorization 0 bytes
