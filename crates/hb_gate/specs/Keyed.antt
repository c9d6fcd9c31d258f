-- A key of the code whose identity, where it has one, may be written.
use Rattle.std.specs.Prelude.{IfSome}
use Rattle.hb_front.specs.Written.{IsSent}
use Rattle.hb_gateway.specs.declared.key.Key.{Key}

abbrev pub IsWritable : Key → Type 0
IsWritable key = IfSome key.identity IsSent
