-- What the calls of the rings make of them.
use Rattle.std.specs.Prelude.{ℕ, ◌-◌, ◌&&◌, not, nat_le, if◌then◌else◌, List, length}
use Rattle.hb_base.specs.declared.door.Door.{Door}
use Rattle.hb_tunnel.specs.Tunnel.{dialling}
use Rattle.hb_tunnel.specs.Way.{Way, after, pushes}
use Rattle.hb_relay.specs.RingsAt.{RingsAt}

-- of a link of this door, before anything came
abbrev pub fresh_rings : Door → RingsAt
fresh_rings door = record { door = door; ways = dialling }

-- bytes are pushed where they fit a way that hasn't ended
abbrev pub pushed : ℕ → List ℕ → Way → Way
pushed size bytes w = if not w.has_ended && nat_le (length bytes) (size - length w.held) then after w (pushes bytes) else w
