-- A message is its list of fields (Protocol Buffers encoding guide, "Message Structure").
use Rattle.std.specs.Prelude.{ℕ, zero, suc, List, [], ◌∷◌, length, Option, Some, None, Result, Ok, Err}
use Rattle.hb_wire.specs.declared.fault.WireFault.{WireFault}
use Rattle.hb_wire.specs.Field.{Unread, Content, next_in}

-- the fields that bytes spell, and the fault behind them where the bytes don't end with a field
pub record Message : Type 0 where
  pub fields : List Content
  pub fault : Option WireFault

abbrev pub with_first : Content → Message → Message
with_first f m = record { fields = f ∷ m.fields; fault = m.fault }

-- the message that begins with what stands in front, and goes on with what is behind it
abbrev pub message_from : (Unread → Message) → Result (Option (Content × Unread)) WireFault → Message
message_from behind (Ok None) = record { fields = []; fault = None }
message_from behind (Ok (Some f)) = with_first f.0 (behind f.1)
message_from behind (Err e) = record { fields = []; fault = Some e }

-- at most n fields in front
unfoldable pub message_within : ℕ → Unread → Message
message_within zero u = record { fields = []; fault = None }
message_within (suc n) u = message_from (λ v. message_within n v) (next_in u)

-- The message that the bytes are. Each field takes a byte, so there are no more fields than bytes.
unfoldable pub message_of : Unread → Message
message_of u = message_within (length u.left) u

abbrev pub and_then : {A B F : Type 0} → Result A F → (A → Result B F) → Result B F
and_then (Ok x) f = f x
and_then (Err e) f = Err e

abbrev pub fault_or : {S F : Type 0} → (WireFault → F) → Option WireFault → S → Result S F
fault_or wire None s = Ok s
fault_or wire (Some e) s = Err (wire e)

-- What a list of fields makes of a value, one field after the other: the first fault that a field makes.
abbrev pub fold_fields : {S F : Type 0} → (S → Content → Result S F) → S → List Content → Result S F
fold_fields merge s [] = Ok s
fold_fields merge s (f ∷ fs) = and_then (merge s f) (λ t. fold_fields merge t fs)

-- What a message makes of a value: a fault of its bytes stands behind all its fields.
unfoldable pub fold_message : {S F : Type 0} → (S → Content → Result S F) → (WireFault → F) → S → Message → Result S F
fold_message merge wire s m = and_then (fold_fields merge s m.fields) (fault_or wire m.fault)
