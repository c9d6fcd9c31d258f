-- What the owner of a link sees of it.
use Rattle.std.specs.Prelude.{◌≡◌, ℕ, ◌-◌, ◌<◌, ◌≤◌, ◌==◌, not, Bool, true, false, List, [], length, Option, Some, None}
use Rattle.std.specs.FinMap.{get}
use Rattle.hb_conn.specs.Observed as connection
use Rattle.hb_kept.specs.Kept.{wants_of}
use Rattle.hb_front.specs.Room.{longest_front}
use Rattle.hb_inbound.specs.Calm.{up_wants}
use Rattle.hb_inbound.specs.Tunnel as t
use Rattle.hb_inbound.specs.Tunnel.{Tunnel as Machine}
use Rattle.hb_link.specs.declared.link.Link.{Link}
use Rattle.hb_link.specs.declared.phase.Phase.{Phase}
use Rattle.hb_link.specs.declared.phase.Phase.TheVariants.{Fronting, Serving, Faulted}
use Rattle.hb_link.specs.declared.tunnel.Tunnel.{Tunnel}
use Rattle.hb_link.specs.Tunnels.{stage_of, tunnel_of}

abbrev pub serves_in : Phase → Bool
serves_in Serving = true
serves_in phase = false

-- how many bytes may be read of it now, and what may be written
abbrev pub wants_in : Phase → Link → ℕ
wants_in Fronting k = longest_front - length k.front
wants_in Serving k = wants_of k.conn
wants_in phase k = 0

abbrev pub wants_on : Link → ℕ
wants_on k = wants_in k.phase k

abbrev pub output_in : Phase → Link → List ℕ
output_in Serving k = connection.output k.conn
output_in (Faulted code) k = connection.output k.conn
output_in phase k = []

abbrev pub output_on : Link → List ℕ
output_on k = output_in k.phase k

-- a connection error was told, and something waits
abbrev pub last_in : Phase → Link → Bool
last_in (Faulted code) k = not (length (connection.output k.conn) == 0)
last_in phase k = false

abbrev pub says_last : Link → Bool
says_last k = last_in k.phase k

-- of the upstream of a tunnel that lives: how many bytes may be read, and the bytes that wait to be written
abbrev pub up_wants_by : t.Stage → Machine → ℕ
up_wants_by t.live x = up_wants x
up_wants_by stage x = 0

abbrev pub up_held_by : t.Stage → Machine → List ℕ
up_held_by t.live x = x.ways.up.held
up_held_by stage x = []

abbrev pub wants_of_up : Tunnel → ℕ
wants_of_up k = up_wants_by (stage_of k.stage) (tunnel_of k)

abbrev pub held_of_up : Tunnel → List ℕ
held_of_up k = up_held_by (stage_of k.stage) (tunnel_of k)

abbrev pub up_wants_in : Option Tunnel → ℕ
up_wants_in None = 0
up_wants_in (Some k) = wants_of_up k

abbrev pub up_held_in : Option Tunnel → List ℕ
up_held_in None = []
up_held_in (Some k) = held_of_up k

abbrev pub up_wants_on : Link → ℕ → ℕ
up_wants_on k s = up_wants_in (get k.tunnels s)

abbrev pub up_held_on : Link → ℕ → List ℕ
up_held_on k s = up_held_in (get k.tunnels s)

-- the number of the upstream of a tunnel, 0 where it has none
abbrev pub up_in : Option Tunnel → ℕ
up_in None = 0
up_in (Some k) = k.up

abbrev pub up_on : Link → ℕ → ℕ
up_on k s = up_in (get k.tunnels s)

-- the first stream from a number on whose tunnel has an upstream, and the number of that
abbrev pub IsNextUp : Link → ℕ → Option (ℕ × ℕ) → Type 0
IsNextUp k from None = (s : ℕ) → from ≤ s → up_on k s ≡ 0
IsNextUp k from (Some next) =
    (from ≤ next.0) × (0 < next.1) × (up_on k next.0 ≡ next.1) × ((s : ℕ) → from ≤ s → s < next.0 → up_on k s ≡ 0)
