-- What goes at once of the bytes that came for a stream, and what may be put of a tunnel. No public clause cites this file.
use Rattle.std.specs.Prelude.{◌≡◌, ℕ, ◌<◌, ◌≤◌, ◌==◌, ◌&&◌, ◌||◌, not, Bool, true, false, if◌then◌else◌, List, length, Option, Some, None}
use Rattle.hb_conn.specs.Connection.{Connection}
use Rattle.hb_conn.specs.Observed as connection
use Rattle.hb_conn.specs.Observed.{output, own_side_open, count_put, data_put, data_unbegun, data_begun}
use Rattle.hb_outgoing.specs.declared.unbegun.Unbegun.{Unbegun}
use Rattle.hb_tunnel.specs.Way.{after, takes, is_done}
use Rattle.hb_inbound.specs.Calm.{Rests}
use Rattle.hb_inbound.specs.Inbound.{Inbound, serving}
use Rattle.hb_link.specs.declared.link.Link.{Link}
use Rattle.hb_link.specs.declared.tunnel.Stage.{Stage}
use Rattle.hb_link.specs.declared.tunnel.Stage.TheVariants.{Live}
use Rattle.hb_link.specs.declared.tunnel.Tunnel.{Tunnel}
use Rattle.hb_link.specs.Settling.{MayPut}

-- as many as may be put in one DATA frame, where some may be
abbrev pub count_first : Bool → Connection → ℕ → List ℕ → ℕ
count_first may c s bytes = if may then count_put c s bytes else 0

abbrev pub conn_first : Bool → Connection → ℕ → List ℕ → Connection
conn_first may c s bytes = if may then data_put c s bytes else c

-- DATA may go on the stream: nothing waits to be written, and this end's side is open
abbrev pub may_put : Connection → ℕ → Bool
may_put c s = length (output c) == 0 && own_side_open c s

-- as many of a tunnel's bytes as may go are put: how many, and what is left of it, and of the connection
abbrev pub count_here : Connection → ℕ → Tunnel → ℕ
count_here c s k = count_first (may_put c s) c s k.ways.down.held

abbrev pub bytes_put : Connection → ℕ → Tunnel → Tunnel
bytes_put c s k =
    record k { ways = record k.ways { down = after k.ways.down (takes (count_here c s k)) } }

abbrev pub conn_bytes : Connection → ℕ → Tunnel → Connection
conn_bytes c s k = conn_first (may_put c s) c s k.ways.down.held

-- DATA with payload of the stream waits: the first such frame that hasn't begun is its, or a frame in part
abbrev pub is_unbegun_on : ℕ → Option Unbegun → Bool
is_unbegun_on s None = false
is_unbegun_on s (Some first) = first.stream == s

abbrev pub data_seen : Connection → ℕ → Bool
data_seen c s = is_unbegun_on s (data_unbegun c) || data_begun c s

-- END_STREAM may go
abbrev pub may_finish : Connection → ℕ → Tunnel → Bool
may_finish c s k = is_done k.ways.down && not k.end_put && own_side_open c s && not (data_seen c s)

-- it is put where it may go: what is left of the tunnel, and of the connection
abbrev pub end_counted : Connection → ℕ → Tunnel → Tunnel
end_counted c s k = if may_finish c s k then record k { end_put = true } else k

abbrev pub conn_finished : Connection → ℕ → Tunnel → Connection
conn_finished c s k = if may_finish c s k then connection.end_put c s else c

-- a tunnel of the code lives
abbrev pub lives_in : Stage → Bool
lives_in Live = true
lives_in stage = false

-- nothing more may be put on the streams from this number on and below that one
pub record PutsBelow (from n : ℕ) (k : Link) (x : Inbound) : Type 0 where
  pub may : MayPut k x
  pub serves : x.phase ≡ serving
  pub below : (s : ℕ) → from ≤ s → s < n → Rests x.conn s (x.tunnels s)
