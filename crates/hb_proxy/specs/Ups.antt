-- Which link is the upstream of a tunnel, or of a plain link.
use Rattle.std.specs.Prelude.{◌≡◌, ℕ, ◌<◌}
use Rattle.hb_captured.specs.Captured.{Captured}
use Rattle.hb_inbound.specs.Tunnel.{Tunnel, Stage, opening, accepting, live, failed, ended, over}

-- the upstream of a tunnel that isn't closed, 0 where it has none
abbrev pub up_by : Stage → Tunnel → ℕ
up_by opening t = t.up
up_by accepting t = t.up
up_by live t = t.up
up_by (failed cause) t = t.up
up_by (ended cause) t = t.up
up_by (over cause) t = t.up
up_by stage t = 0

abbrev pub up_now : Tunnel → ℕ
up_now t = up_by t.stage t

-- it is this one
abbrev pub Joins : Tunnel → ℕ → Type 0
Joins t u = (0 < u) × (up_now t ≡ u)

-- that of a plain link is 0 before its dial and behind its close
abbrev pub IsRelayOf : Captured → ℕ → Type 0
IsRelayOf x u = (0 < u) × (x.up ≡ u)
