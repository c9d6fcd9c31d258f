use Rattle.hb_wire.proofs.Written.{varint_is, groups_shortest, number_spelled, bytes_spelled}
use Rattle.hb_wire.proofs.spelling.what_is_written_is_spelled_so.Goals as goal

pub returns-clause-varint : goal.returns-clause-varint
returns-clause-varint c = varint_is

pub returns-clause-shortest : goal.returns-clause-shortest
returns-clause-shortest c bytes n is = groups_shortest bytes 10 n is.base128

pub returns-clause-number : goal.returns-clause-number
returns-clause-number c = number_spelled

pub returns-clause-bytes : goal.returns-clause-bytes
returns-clause-bytes c = bytes_spelled
