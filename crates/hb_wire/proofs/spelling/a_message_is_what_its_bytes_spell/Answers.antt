use Rattle.std.proofs.Common.{None}
use Rattle.hb_wire.proofs.Exact.{message_spelled, message_read, whole_message, up_to_its_end, one_list, no_field}
use Rattle.hb_wire.proofs.spelling.a_message_is_what_its_bytes_spell.Goals as goal

pub returns-clause-whole : goal.returns-clause-whole
returns-clause-whole c = λ at bytes fields octets. (
  λ e. whole_message at bytes fields (message_spelled at bytes (record { fields = fields; fault = None }) octets e),
  λ s. message_read at bytes fields None (up_to_its_end at bytes fields s),
)

pub returns-clause-one : goal.returns-clause-one
returns-clause-one c = one_list

pub returns-clause-exact : goal.returns-clause-exact
returns-clause-exact c = λ at bytes fields fault octets. (
  λ e. message_spelled at bytes (record { fields = fields; fault = fault }) octets e,
  λ s. message_read at bytes fields fault s,
)

pub returns-clause-apart : goal.returns-clause-apart
returns-clause-apart c = no_field
