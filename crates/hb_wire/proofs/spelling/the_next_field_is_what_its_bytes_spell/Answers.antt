use Rattle.hb_wire.proofs.Exact.{next_spelled, next_of_spelled, nothing_left, end_of_nothing, refused, next_refused}
use Rattle.hb_wire.proofs.spelling.the_next_field_is_what_its_bytes_spell.Goals as goal

pub returns-clause-field : goal.returns-clause-field
returns-clause-field c = λ u v f octets. (λ e. next_spelled u v f octets e, λ s. next_of_spelled u v f s)

pub returns-clause-end : goal.returns-clause-end
returns-clause-end c = λ u. (λ e. nothing_left u e, λ e. end_of_nothing u e)

pub returns-clause-fault : goal.returns-clause-fault
returns-clause-fault c = λ u fault octets. (λ e. refused u fault octets e, λ b. next_refused u fault b)
