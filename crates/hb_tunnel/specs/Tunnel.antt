-- Both ways of a tunnel.
use Rattle.std.specs.Prelude.{ℕ, Bool, false, if◌then◌else◌}
use Rattle.hb_tunnel.specs.Way.{Way, empty_way}
use Rattle.hb_tunnel.specs.declared.phase.Phase.{Phase}
use Rattle.hb_tunnel.specs.declared.phase.Phase.TheVariants.{Dialling, Open, UpEnded, DownEnded, BothEnded}

-- a tunnel: whether its upstream is open, the way up to it, and the way down from it
pub record Ways : Type 0 where
  pub is_open : Bool
  pub up : Way
  pub down : Way

-- how many bytes can wait on the way up: the window of a stream (RFC 9113 section 6.9.2)
abbrev pub up_size : ℕ
up_size = 65535

-- how many bytes can wait on the way down: the payload of a frame (RFC 9113 section 4.2)
abbrev pub down_size : ℕ
down_size = 16384

-- a new tunnel
abbrev pub dialling : Ways
dialling = record { is_open = false; up = empty_way; down = empty_way }

-- how far it is: its upstream isn't open yet; or which of its ways have ended
abbrev pub phase_of : Ways → Phase
phase_of t =
    if t.is_open then
    (if t.up.has_ended then (if t.down.has_ended then BothEnded else UpEnded)
    else (if t.down.has_ended then DownEnded else Open))
    else Dialling
