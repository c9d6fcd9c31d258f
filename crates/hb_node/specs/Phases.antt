-- How far a link of the node is, in the words of the machine.
use Rattle.std.specs.Prelude.{Bool, true, false, Option, Some, None}
use Rattle.hb_base.specs.declared.cause.Cause.{Cause}
use Rattle.hb_base.specs.declared.cause.Cause.TheVariants.{ConnFault}
use Rattle.hb_model.specs.Discovery as m
use Rattle.hb_node.specs.declared.phase.Phase.{Phase}
use Rattle.hb_node.specs.declared.phase.Phase.TheVariants.{Dialling, Live, Faulted, Ending}

abbrev pub phase_of : Phase → m.Phase
phase_of Dialling = m.dialling
phase_of Live = m.live
phase_of (Faulted code) = m.faulted code
phase_of (Ending cause) = m.ending cause

-- bytes may come and go
abbrev pub is_live : Phase → Bool
is_live Live = true
is_live _ = false

-- a connection error was told, and what waits may be written once
abbrev pub is_faulted : Phase → Bool
is_faulted (Faulted code) = true
is_faulted _ = false

-- the link ends for this cause, if any
abbrev pub end_for : Phase → Option Cause → Phase
end_for p None = p
end_for p (Some (ConnFault code)) = Faulted code
end_for p (Some cause) = Ending cause
