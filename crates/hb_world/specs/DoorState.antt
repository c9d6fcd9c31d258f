-- What the world of a script keeps of the doors.
use Rattle.hb_base.specs.declared.door.Door.{Door}
use Rattle.hb_base.specs.declared.door.Door.TheVariants.{Inbound, Outbound, Plain}
use Rattle.hb_world.specs.declared.doors.Doors.{Doors}

-- what is kept of a door
abbrev pub door_at : {T : Type 0} → Doors T → Door → T
door_at doors Inbound = doors.inbound
door_at doors Outbound = doors.outbound
door_at doors Plain = doors.plain
