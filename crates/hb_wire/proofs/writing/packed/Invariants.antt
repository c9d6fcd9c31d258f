use Rattle.std.proofs.Common.{◌≡◌, take}
use Rattle.std.specs.List.{flat_map}
use Rattle.hb_wire.specs.Writing.{varint_of}
use Rattle.hb_wire.proofs.writing.packed.Given as goal

abbrev pub invariant-loop-n : goal.invariant-loop-n
invariant-loop-n l = l.body.items ≡ flat_map varint_of (take l.n-index l.v)
