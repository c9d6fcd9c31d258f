-- In which classes a stream is. No public clause cites this file.
use Rattle.std.specs.Prelude.{is_some}
use Rattle.hb_counted.specs.Classes.{in_none}
use Rattle.hb_counted.specs.declared.classes.Classes.{Classes}
use Rattle.hb_gate.specs.Resetting.{code_of}
use Rattle.hb_gate.specs.declared.stream.Stream.{Stream}

-- its tunnel is to be told its end; it is to be reset
abbrev pub classes_here : Stream → Classes
classes_here k = record in_none { marked = is_some k.mail; due = is_some (code_of k.stage) }
