-- What the code says of a link.
use Rattle.std.specs.Prelude.{ℕ, ◌==◌, ◌&&◌, ◌||◌, not, nat_le, is_ok, Bool, true, false, length, List, [], ◌++◌, Option, Some, None}
use Rattle.std.specs.FinMap.{get}
use Rattle.std.specs.Option.{option_map}
use Rattle.hb_conn.specs.Connection.{Connection}
use Rattle.hb_conn.specs.Observed as connection
use Rattle.hb_conn.specs.Observed.{next_stream, room, own_side_open, data_unbegun, data_begun}
use Rattle.hb_kept.specs.Kept.{wants_of}
use Rattle.hb_outgoing.specs.declared.unbegun.Unbegun.{Unbegun}
use Rattle.hb_gateway.specs.Gateway.{carries}
use Rattle.hb_streams.specs.declared.role.Role.{Role}
use Rattle.hb_streams.specs.declared.role.Role.TheVariants.{Client, Server}
use Rattle.hb_gate.specs.Phases.{phase_of}
use Rattle.hb_gate.specs.declared.gate.Gate.{Gate}
use Rattle.hb_gate.specs.declared.phase.Phase.{Phase}
use Rattle.hb_gate.specs.declared.phase.Phase.TheVariants.{Serving, Faulted}

abbrev pub wants_by : Phase → Gate → ℕ
wants_by Serving k = wants_of k.conn
wants_by phase k = 0

abbrev pub wants_on : Gate → ℕ
wants_on k = wants_by k.phase k

abbrev pub output_by : Phase → Gate → List ℕ
output_by Serving k = k.front ++ connection.output k.conn
output_by (Faulted code) k = k.front ++ connection.output k.conn
output_by phase k = []

abbrev pub output_on : Gate → List ℕ
output_on k = output_by k.phase k

abbrev pub is_client : Role → Bool
is_client Client = true
is_client Server = false

abbrev pub offers_on : Gate → Bool
offers_on k =
    carries (phase_of k.phase) && not k.away && is_client (connection.role k.conn) && is_ok (next_stream k.conn)
    && nat_le 1024 (room k.conn)

-- one write goes before its close: a connection error was told, and octets wait
abbrev pub says_last_by : Phase → Gate → Bool
says_last_by (Faulted code) k = not (nat_le (length (output_on k)) 0)
says_last_by phase k = false

abbrev pub says_last : Gate → Bool
says_last k = says_last_by k.phase k

-- DATA with payload of the stream waits: the first such frame that hasn't begun is its, or a frame in part
abbrev pub is_unbegun_on : ℕ → Option Unbegun → Bool
is_unbegun_on s None = false
is_unbegun_on s (Some first) = first.stream == s

abbrev pub data_seen : Connection → ℕ → Bool
data_seen c s = is_unbegun_on s (data_unbegun c) || data_begun c s

-- this end's side is open, and none waits
abbrev pub can_finish : Connection → ℕ → Bool
can_finish c s = own_side_open c s && not (data_seen c s)

abbrev pub link_on : Gate → ℕ → Option ℕ
link_on k s = option_map (λ t. t.link) (get k.streams s)
