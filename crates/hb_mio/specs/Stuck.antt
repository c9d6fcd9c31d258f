-- Doors at which connections may wait that no event tells.
use Rattle.std.specs.Prelude.{Bool}
use Rattle.hb_base.specs.declared.door.Door.{Door}
use Rattle.hb_base.specs.declared.door.Door.TheVariants.{Inbound, Outbound, Plain}
use Rattle.hb_mio.specs.declared.doors.Doors.{Doors}

-- an accept at this door failed, and no wait named it since
abbrev pub stuck_at : Door → Doors → Bool
stuck_at Inbound doors = doors.inbound.stuck
stuck_at Outbound doors = doors.outbound.stuck
stuck_at Plain doors = doors.plain.stuck
