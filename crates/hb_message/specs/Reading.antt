-- What a message's fields are read by (Protocol Buffers encoding guide, "Message Structure").
use Rattle.std.specs.Prelude.{ℕ, List, Result, Ok, Err, if◌then◌else◌}
use Rattle.std.specs.Str.{is_utf8}
use Rattle.hb_wire.specs.declared.fault.WireFault.{WireFault}
use Rattle.hb_wire.specs.Field.{Content, Value, varint, eight, span, four}
use Rattle.hb_wire.specs.Message.{message_of, fold_message}

-- what the fields of these bytes, which stand at a place of the whole record, make of a value
abbrev pub read_into : {S F : Type 0} → (S → Content → Result S F) → (WireFault → F) → S → ℕ → List ℕ → Result S F
read_into merge wire s at bytes = fold_message merge wire s (message_of (record { at = at; left = bytes }))

-- what a field makes of a value, where it has the wire type of a span; any other leaves the value as it is
abbrev pub of_span : {S F : Type 0} → S → Value → (List ℕ → Result S F) → Result S F
of_span s (span bytes) merge = merge bytes
of_span s (varint n) merge = Ok s
of_span s (eight n) merge = Ok s
of_span s (four n) merge = Ok s

-- a string field: UTF-8 (Protocol Buffers language guide, "Scalar Value Types")
abbrev pub text_by : {F : Type 0} → (ℕ → F) → ℕ → List ℕ → Result (List ℕ) F
text_by utf8 field bytes = if is_utf8 bytes then Ok bytes else Err (utf8 field)
