-- The ways of a link of a door, as contracts see the rings.
use Rattle.hb_base.specs.declared.door.Door.{Door}
use Rattle.hb_tunnel.specs.Tunnel.{Ways}

pub record RingsAt : Type 0 where
  pub door : Door
  pub ways : Ways
