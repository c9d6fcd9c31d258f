-- How much of a link may be read and written, when nothing more happens on it by itself, and which calls are due.
use Rattle.std.specs.Prelude.{⊤, ◌≡◌, ℕ, ◌-◌, ◌<◌, ◌==◌, ◌&&◌, ◌||◌, not, Bool, false, List, [], length, Option, Some, None, if◌then◌else◌}
use Rattle.hb_front.specs.Room.{longest_front}
use Rattle.std.specs.List.{list_any}
use Rattle.hb_base.specs.declared.cause.Cause.{Cause}
use Rattle.hb_base.specs.declared.cause.Cause.TheVariants as cause
use Rattle.hb_conn.specs.Connection.{Connection}
use Rattle.hb_conn.specs.Observed as connection
use Rattle.hb_conn.specs.Observed.{outgoing, IsLookedAt, count_put, end_waits}
use Rattle.hb_front.specs.Reading.{IsAnswer, More}
use Rattle.hb_frames.specs.Numbers.{data_kind}
use Rattle.hb_history.specs.TakenBack.{has_data_on}
use Rattle.hb_kept.specs.Kept.{wants_of}
use Rattle.hb_outgoing.specs.declared.head.Head.{Head}
use Rattle.hb_tunnel.specs.Tunnel.{down_size}
use Rattle.hb_tunnel.specs.Way.{is_done}
use Rattle.hb_inbound.specs.Inbound.{Inbound, Phase, fronting, serving, faulted, closing, arriving}
use Rattle.hb_inbound.specs.Tunnel.{Tunnel, Stage, due, live, over, is_failed, is_ended, is_unanswered, may_shut}

-- HOW MUCH MAY BE READ AND WRITTEN

-- of an unwhole header as much as the longest has; of a connection so many octets that every answer to them has room
abbrev pub wants_by : Phase → Inbound → ℕ
wants_by fronting x = longest_front - length x.front
wants_by serving x = wants_of x.conn
wants_by _ x = 0

abbrev pub wants : Inbound → ℕ
wants x = wants_by x.phase x

abbrev pub output_by : Phase → Inbound → List ℕ
output_by serving x = connection.output x.conn
output_by (faulted code) x = connection.output x.conn
output_by _ x = []

abbrev pub output : Inbound → List ℕ
output x = output_by x.phase x

-- of an upstream as much as its ring has room for, until it has ended
abbrev pub up_wants : Tunnel → ℕ
up_wants t = if t.ways.down.has_ended then 0 else down_size - length t.ways.down.held

-- WHEN NOTHING MORE HAPPENS BY ITSELF

-- an octet of DATA with payload of the stream waits to be written
abbrev pub is_data_on : ℕ → Option Head → Bool
is_data_on s None = false
is_data_on s (Some h) = h.kind == data_kind && h.stream == s

abbrev pub data_waits : Connection → ℕ → Bool
data_waits c s = list_any (has_data_on s) (outgoing c).queue || is_data_on s (outgoing c).begun

-- END_STREAM may be put: the upstream has ended, and all that it sent has gone
abbrev pub may_end : Connection → ℕ → Tunnel → Bool
may_end c s t = is_done t.ways.down && not t.end_put && not (data_waits c s)

-- both sides of a tunnel ended, and all went through: also this end's END_STREAM, whole
abbrev pub is_done_on : Connection → ℕ → Tunnel → Bool
is_done_on c s t = is_done t.ways.up && is_done t.ways.down && t.end_put && not (end_waits c s)

pub record LiveRests (c : Connection) (s : ℕ) (t : Tunnel) : Type 0 where
  -- all that was written to the upstream is given back, and no DATA can be put now
  pub given_back : t.owed ≡ 0
  pub none_goes : count_put c s t.ways.down.held ≡ 0
  pub not_ended : may_end c s t ≡ false
  pub not_done : is_done_on c s t ≡ false

abbrev pub RestsBy : Stage → Connection → ℕ → Tunnel → Type 0
RestsBy live c s t = LiveRests c s t
RestsBy stage c s t = ⊤

abbrev pub Rests : Connection → ℕ → Tunnel → Type 0
Rests c s t = RestsBy t.stage c s t

-- every request, opening and end of a tunnel got what it gets
abbrev pub IsAnswered : Inbound → Type 0
IsAnswered x = (s : ℕ) → is_unanswered (x.tunnels s).stage ≡ false

-- nothing is left to be looked at, and each tunnel rests
abbrev pub RestsIn : Phase → Inbound → Type 0
RestsIn arriving x = ⊥
RestsIn fronting x = IsAnswer x.front More
RestsIn serving x = IsLookedAt x.conn × ((s : ℕ) → Rests x.conn s (x.tunnels s))
RestsIn _ x = ⊤

pub record IsCalm (x : Inbound) : Type 0 where
  pub answered : IsAnswered x
  pub rests : RestsIn x.phase x

-- of the tunnels that ended those are answered first that had been pending, and of either the lowest stream first
abbrev pub IsNextFailed : Inbound → ℕ → Type 0
IsNextFailed x s = (k : ℕ) → k < s → is_failed (x.tunnels k).stage ≡ false

abbrev pub IsNextEnded : Inbound → ℕ → Type 0
IsNextEnded x s =
    ((k : ℕ) → is_failed (x.tunnels k).stage ≡ false) × ((k : ℕ) → k < s → is_ended (x.tunnels k).stage ≡ false)

-- CALLS THAT ARE DUE

abbrev pub close_due : Phase → Option Cause
close_due (closing cause) = Some cause
close_due (faulted code) = Some (cause.ConnFault code)
close_due _ = None

-- of a tunnel: its dial, the shut of its upstream, or that one's close
abbrev pub IsIdleBy : Stage → Tunnel → Type 0
IsIdleBy due t = ⊥
IsIdleBy live t = may_shut t ≡ false
IsIdleBy (over cause) t = ⊥
IsIdleBy stage t = ⊤

-- no call is due, and nothing more happens by itself
pub record IsQuiet (x : Inbound) : Type 0 where
  pub calm : IsCalm x
  pub no_close : close_due x.phase ≡ None
  pub idle : (s : ℕ) → IsIdleBy (x.tunnels s).stage (x.tunnels s)
