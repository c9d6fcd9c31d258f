use Rattle.std.proofs.Common.{length}
use Rattle.hb_wire.proofs.varint.+read_varint.Given as goal

abbrev pub decreases-read_varint : goal.decreases-read_varint
decreases-read_varint l = length l.bytes.now
